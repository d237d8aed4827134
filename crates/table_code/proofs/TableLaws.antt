-- Tables of values: read, grown and written.
use Rattle.std.proofs.Common.{◌≡◌, ℕ, zero, suc, ◌+◌, ◌<◌, ◌≤◌, nat_eq, List, [], ◌∷◌, ◌++◌, map, drop, length, get_or, Bool, true, false, cond, Option, Some, None, refl, sym, ap, ap₂, subst, ◌∙◌, append_assoc, ⊎_elim, arith}
use Rattle.std.specs.List.{slice_get, slice_set}
use Rattle.std.specs.Option.{option_map}
use Rattle.std.proofs.lemmas.Option.{same_Some, none-some}
use Rattle.std.proofs.lemmas.Bool.Decides.{eqb_tells}
use Rattle.operation_model.specs.Values as model
use Rattle.form_model.specs.Codes.{Env, lookup, lookups, and_value}
use Rattle.form_model.specs.Codes as codes
use Rattle.value_code.specs.declared.value.Value.{Value}
use Rattle.value_code.specs.Models.{value_of, values_of}
use Rattle.table_code.specs.Agreement.{Agrees, Binds, value_at, held, list_of}

-- a free place more

pub grown : (table : List (Option Value)) (n : ℕ) → value_at n (table ++ None ∷ []) ≡ value_at n table
grown [] zero = refl
grown [] (suc n) = refl
grown (s ∷ table) zero = refl
grown (s ∷ table) (suc n) = grown table n

-- a value put to a place

pub written_here : (table : List (Option Value)) (n : ℕ) (v : Value) → n < length table → value_at n (slice_set table n (Some v)) ≡ Some (value_of v)
written_here [] n v lt = absurd (omega (arith, lt))
written_here (s ∷ table) zero v lt = refl
written_here (s ∷ table) (suc n) v lt = written_here table n v (omega (arith, lt))

pub written_elsewhere : (table : List (Option Value)) (n m : ℕ) (v : Value) → (n ≡ m → ⊥) → value_at m (slice_set table n (Some v)) ≡ value_at m table
written_elsewhere [] n m v other = refl
written_elsewhere (s ∷ table) zero zero v other = absurd (other refl)
written_elsewhere (s ∷ table) zero (suc m) v other = refl
written_elsewhere (s ∷ table) (suc n) zero v other = refl
written_elsewhere (s ∷ table) (suc n) (suc m) v other = written_elsewhere table n m v (λ e. other (ap (λ k. suc k) e))

pub written : (table : List (Option Value)) (n : ℕ) (v : Value) (env : Env) → n < length table → Agrees table env → Agrees (slice_set table n (Some v)) ((n, value_of v) ∷ env)
written table n v env lt agrees m =
    ⊎_elim
    (λ h. subst (λ k. value_at k (slice_set table n (Some v)) ≡ Some (value_of v)) h.1 (written_here table n v lt) ∙ ap (λ b. cond b (Some (value_of v)) (lookup m env)) (sym h.0))
    (λ h. written_elsewhere table n m v h.1 ∙ agrees m ∙ ap (λ b. cond b (Some (value_of v)) (lookup m env)) (sym h.0))
    (eqb_tells n m)

-- numbers and values one after another

drop_on : {A : Type 0} (xs : List A) (i : ℕ) (x : A) → slice_get xs i ≡ Some x → drop i xs ≡ x ∷ drop (suc i) xs
drop_on [] i x e = absurd (none-some x e)
drop_on (y ∷ ys) zero x e = ap (λ z. z ∷ ys) (same_Some y x e)
drop_on (y ∷ ys) (suc i) x e = drop_on ys i x e

pub drop_at : {A : Type 0} (xs : List A) (i : ℕ) (x : A) → slice_get xs i ≡ Some x → drop i xs ≡ x ∷ drop (i + 1) xs
drop_at xs i x e = let next : suc i ≡ i + 1 = omega arith in drop_on xs i x e ∙ ap (λ j. x ∷ drop j xs) next

pub drop_whole : {A : Type 0} (xs : List A) (n : ℕ) → length xs ≤ n → drop n xs ≡ []
drop_whole [] zero le = refl
drop_whole [] (suc n) le = refl
drop_whole (y ∷ ys) zero le = absurd (omega (arith, le))
drop_whole (y ∷ ys) (suc n) le = drop_whole ys n (omega (arith, le))

pub get_is : {A : Type 0} (xs : List A) (i : ℕ) (d : A) → i < length xs → slice_get xs i ≡ Some (get_or xs i d)
get_is [] i d lt = absurd (omega (arith, lt))
get_is (x ∷ xs) zero d lt = refl
get_is (x ∷ xs) (suc i) d lt = get_is xs i d (omega (arith, lt))

pub uneven : (ids : List ℕ) (vs : List Value) (env : Env) → (length ids ≡ length vs → ⊥) → codes.bind ids (values_of vs) env ≡ None
uneven [] [] env h = absurd (h refl)
uneven [] (v ∷ vs) env h = refl
uneven (n ∷ ids) [] env h = refl
uneven (n ∷ ids) (v ∷ vs) env h = uneven ids vs ((n, value_of v) ∷ env) (λ e. h (ap (λ k. suc k) e))

-- what is bound so far
pub record Bound (ids : List ℕ) (vs : List Value) (i : ℕ) (table : List (Option Value)) (env : Env) : Type 0 where
  pub now : Env
  pub agrees : Agrees table now
  pub same : codes.bind (drop i ids) (values_of (drop i vs)) now ≡ codes.bind ids (values_of vs) env

pub bound_one : (ids : List ℕ) (vs : List Value) (i : ℕ) (table next : List (Option Value)) (env : Env) (n : ℕ) (v copy : Value) → slice_get ids i ≡ Some n → slice_get vs i ≡ Some v → copy ≡ v
    → ((e : Env) → Agrees table e → Agrees next ((n, value_of copy) ∷ e)) → Bound ids vs i table env → Bound ids vs (i + 1) next env
bound_one ids vs i table next env n v copy at_id at_value same put so = record {
  now = (n, value_of v) ∷ so.now;
  agrees = subst (λ x. Agrees next ((n, value_of x) ∷ so.now)) same (put so.now so.agrees);
  same = sym (ap₂ (λ is xs. codes.bind is (values_of xs) so.now) (drop_at ids i n at_id) (drop_at vs i v at_value)) ∙ so.same;
}

pub bound_all : (ids : List ℕ) (vs : List Value) (n : ℕ) (table : List (Option Value)) (env : Env) → length ids ≤ n → length vs ≤ n → Bound ids vs n table env
    → Binds true table (codes.bind ids (values_of vs) env)
bound_all ids vs n table env le lv so =
    (so.now, sym so.same ∙ ap₂ (λ is xs. codes.bind is (values_of xs) so.now) (drop_whole ids n le) (drop_whole vs n lv), so.agrees)
