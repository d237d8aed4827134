-- Where the ways in a forest end.
use Rattle.std.proofs.Common.{◌≡◌, ◌≢◌, ℕ, zero, suc, ◌+◌, ◌-◌, ◌<◌, ◌≤◌, ◌==◌, Bool, true, false, List, [], ◌∷◌, ◌++◌, length, get_or, set, Option, Some, None, refl, sym, ap, subst, ◌∙◌, arith, true≢false}
use Rattle.std.specs.Prelude.{if◌then◌else◌}
use Rattle.std.proofs.Math.Path.{fun_ext}
use Rattle.std.proofs.lemmas.Bool.Decides.{Decides-eqb}
use Rattle.std.proofs.lemmas.Grind.{common_steps}
use Rattle.std.proofs.lemmas.List.{get_or-set_same, get_or-set_other, get_or_append_left, length-set, length-append}
use Rattle.std.proofs.Math.Seq.{get_or-append_seam}
use Rattle.conversion_model.specs.Uses.{replaced}
use Rattle.stand_ins.specs.Forests.{Forest, IsForest, added, by_place, followed_for, from_place, halved, parent_at, places_left, standing, with_place}

-- from a value the ways lead to the one at the end
pub data Leads (t : Forest) : ℕ → ℕ → Type 0 where
  ends : {v : ℕ} → t.place v ≡ None → Leads t v v
  goes : {v i r : ℕ} → t.place v ≡ Some i → Leads t (parent_at t i) r → Leads t v r

some_none : {k : ℕ} → Some k ≡ None → ⊥
some_none e = absurd (cc)

some_same : {m n : ℕ} → Some m ≡ Some n → m ≡ n
some_same e = cc

no_place : (t : Forest) → IsForest t → (room v : ℕ) (o : Option ℕ) → t.place v ≡ o → ((i : ℕ) → t.place v ≡ Some i → length t.parents ≤ i) → Leads t v v
no_place t h room v None e enough = ends e
no_place t h room v (Some i) e enough = absurd (omega (arith, h.inside v i e, enough i e))

one_step : (t : Forest) (room v : ℕ) (o : Option ℕ) → t.place v ≡ o → ((i : ℕ) → t.place v ≡ Some i → Leads t (parent_at t i) (followed_for room t (parent_at t i)))
    → Leads t v (by_place t (followed_for room t) v o)
one_step t room v None e next = ends e
one_step t room v (Some i) e next = goes e (next i e)

leads_on : (t : Forest) → IsForest t → (room v : ℕ) → ((i : ℕ) → t.place v ≡ Some i → length t.parents ≤ i + room) → Leads t v (followed_for room t v)
leads_on t h zero v enough = no_place t h 0 v (t.place v) refl (λ i e. omega (arith, enough i e))
leads_on t h (suc room) v enough =
    one_step t room v (t.place v) refl (λ i e. leads_on t h room (parent_at t i) (λ j f. omega (arith, h.later v i j e f, enough i e)))

standing_leads : (t : Forest) → IsForest t → (v : ℕ) → Leads t v (standing t v)
unfolding standing
standing_leads t h v = leads_on t h (length t.parents) v (λ i e. omega arith)

one_end : (t : Forest) (v r s : ℕ) → Leads t v r → Leads t v s → r ≡ s
one_end t v r s (ends e) (ends f) = refl
one_end t v r s (ends e) (goes f d) = absurd (cc)
one_end t v r s (goes e c) (ends f) = absurd (cc)
one_end t v r s (goes {i = i} e c) (goes {i = j} f d) =
    let same : j ≡ i = cc in
    one_end t (parent_at t i) r s c (subst (λ k. Leads t (parent_at t k) s) same d)

end_free : (t : Forest) (v r : ℕ) → Leads t v r → t.place r ≡ None
end_free t v r (ends e) = e
end_free t v r (goes {i = i} e d) = end_free t (parent_at t i) r d

pub standing_is : (t : Forest) → IsForest t → (v r : ℕ) → Leads t v r → standing t v ≡ r
standing_is t h v r d = one_end t v (standing t v) r (standing_leads t h v) d

-- a value without a place stands for itself, one with a place for what the value there stands for
pub stands_itself : (t : Forest) → IsForest t → (v : ℕ) → t.place v ≡ None → standing t v ≡ v
stands_itself t h v e = standing_is t h v v (ends e)

pub stands_further : (t : Forest) → IsForest t → (v i : ℕ) → t.place v ≡ Some i → standing t (parent_at t i) ≡ standing t v
stands_further t h v i e = sym (standing_is t h v (standing t (parent_at t i)) (goes e (standing_leads t h (parent_at t i))))

-- A shorter way

by_test : (t : Forest) (place next : ℕ) → place < length t.parents → (v i r : ℕ) (b : Bool) → (i == place) ≡ b → t.place v ≡ Some i
    → Leads (halved t place next) (parent_at t i) r → (i ≡ place → Leads (halved t place next) (parent_at t next) r) → Leads (halved t place next) v r
by_test t place next inside v i r true is e d further =
    let same : i ≡ place = (Decides-eqb i place).0 is in
    let there : parent_at (halved t place next) i ≡ parent_at t next = ap (λ k. parent_at (halved t place next) k) same ∙ get_or-set_same t.parents place (parent_at t next) 0 inside in
    goes e (subst (λ p. Leads (halved t place next) p r) (sym there) (further same))
by_test t place next inside v i r false is e d further =
    let other : i ≢ place = λ same. true≢false (sym ((Decides-eqb i place).1 same) ∙ is) in
    let there : parent_at (halved t place next) i ≡ parent_at t i = get_or-set_other t.parents place i (parent_at t next) 0 other in
    goes e (subst (λ p. Leads (halved t place next) p r) (sym there) d)

mutual
  halved_leads : (t : Forest) (place next : ℕ) → place < length t.parents → t.place (parent_at t place) ≡ Some next → (v r : ℕ) → Leads t v r → Leads (halved t place next) v r
  halved_leads t place next inside behind v r (ends e) = ends e
  halved_leads t place next inside behind v r (goes {i = i} e d) =
      by_test t place next inside v i r (i == place) refl e (halved_leads t place next inside behind (parent_at t i) r d)
      (λ same. behind_leads t place next inside behind (parent_at t i) r (ap (λ k. t.place (parent_at t k)) same ∙ behind) d)

  behind_leads : (t : Forest) (place next : ℕ) → place < length t.parents → t.place (parent_at t place) ≡ Some next → (v r : ℕ) → t.place v ≡ Some next → Leads t v r → Leads (halved t place next) (parent_at t next) r
  behind_leads t place next inside behind v r is (ends e) = absurd (cc)
  behind_leads t place next inside behind v r is (goes {i = i} e d) =
      let same : i ≡ next = cc in
      subst (λ k. Leads (halved t place next) (parent_at t k) r) same (halved_leads t place next inside behind (parent_at t i) r d)

later_halved : (t : Forest) → IsForest t → (value place next : ℕ) → t.place value ≡ Some place → t.place (parent_at t place) ≡ Some next
    → (v i j : ℕ) (b : Bool) → (i == place) ≡ b → t.place v ≡ Some i → t.place (parent_at (halved t place next) i) ≡ Some j → i < j
later_halved t h value place next here behind v i j true is e f =
    let same : i ≡ place = (Decides-eqb i place).0 is in
    let there : parent_at (halved t place next) i ≡ parent_at t next =
    ap (λ k. parent_at (halved t place next) k) same ∙ get_or-set_same t.parents place (parent_at t next) 0 (h.inside value place here) in
    let first : place < next = h.later value place next here behind in
    let second : next < j = h.later (parent_at t place) next j behind (sym (ap t.place there) ∙ f) in
    omega (arith, first, second, same)
later_halved t h value place next here behind v i j false is e f =
    let other : i ≢ place = λ same. true≢false (sym ((Decides-eqb i place).1 same) ∙ is) in
    let there : parent_at (halved t place next) i ≡ parent_at t i = get_or-set_other t.parents place i (parent_at t next) 0 other in
    h.later v i j e (sym (ap t.place there) ∙ f)

pub forest_halved : (t : Forest) → IsForest t → (value place next : ℕ) → t.place value ≡ Some place → t.place (parent_at t place) ≡ Some next → IsForest (halved t place next)
forest_halved t h value place next here behind = record {
  inside = λ v i e. subst (λ n. i < n) (sym (length-set t.parents place (parent_at t next))) (h.inside v i e);
  later = λ v i j e f. later_halved t h value place next here behind v i j (i == place) refl e f;
}

-- a shorter way ends at the same value
pub standing_halved : (t : Forest) → IsForest t → (value place next : ℕ) → t.place value ≡ Some place → t.place (parent_at t place) ≡ Some next
    → standing (halved t place next) ≡ standing t
standing_halved t h value place next here behind =
    fun_ext (λ v. standing_is (halved t place next) (forest_halved t h value place next here behind) v (standing t v)
    (halved_leads t place next (h.inside value place here) behind v (standing t v) (standing_leads t h v)))

-- A value that is given up

placed_here : (place : ℕ → Option ℕ) (from i v : ℕ) → (from == v) ≡ true → with_place place from i v ≡ Some i
placed_here place from i v is = ap (λ b. if b then Some i else place v) is

placed_there : (place : ℕ → Option ℕ) (from i v : ℕ) → (from == v) ≡ false → with_place place from i v ≡ place v
placed_there place from i v is = ap (λ b. if b then Some i else place v) is

-- a value with another answer is another value
not_from : (t : Forest) (from v i : ℕ) (b : Bool) → (from == v) ≡ b → t.place from ≡ None → t.place v ≡ Some i → (from == v) ≡ false
not_from t from v i true is free e = let same : from ≡ v = (Decides-eqb from v).0 is in absurd (some_none (sym e ∙ sym (ap t.place same) ∙ free))
not_from t from v i false is free e = is

last_leads : (t : Forest) (from to r : ℕ) (b : Bool) → (r == from) ≡ b → t.place to ≡ None → (from == to) ≡ false → t.place r ≡ None
    → Leads (added t from to) r (if b then to else r)
last_leads t from to r true is free other e =
    let same : r ≡ from = (Decides-eqb r from).0 is in
    let itself : (from == r) ≡ true = (Decides-eqb from r).1 (sym same) in
    goes {i = length t.parents} (placed_here t.place from (length t.parents) r itself)
    (subst (λ p. Leads (added t from to) p to) (sym (get_or-append_seam t.parents to [] 0)) (ends (placed_there t.place from (length t.parents) to other ∙ free)))
last_leads t from to r false is free other e =
    let apart : (from == r) ≡ false = turned from r (from == r) refl is in
    ends (placed_there t.place from (length t.parents) r apart ∙ e)
  where
    turned : (m n : ℕ) (b : Bool) → (m == n) ≡ b → (n == m) ≡ false → (m == n) ≡ false
    turned m n true e f = absurd (true≢false (sym ((Decides-eqb n m).1 (sym ((Decides-eqb m n).0 e))) ∙ f))
    turned m n false e f = e

added_leads : (t : Forest) → IsForest t → (from to : ℕ) → t.place from ≡ None → t.place to ≡ None → (from == to) ≡ false
    → (v r : ℕ) → Leads t v r → Leads (added t from to) v (replaced from to r)
added_leads t h from to given free other v r (ends e) = last_leads t from to r (r == from) refl free other e
added_leads t h from to given free other v r (goes {i = i} e d) =
    let apart : (from == v) ≡ false = not_from t from v i (from == v) refl given e in
    goes {i = i} (placed_there t.place from (length t.parents) v apart ∙ e)
    (subst (λ p. Leads (added t from to) p (replaced from to r)) (sym (get_or_append_left t.parents (to ∷ []) 0 i (h.inside v i e)))
    (added_leads t h from to given free other (parent_at t i) r d))

inside_added : (t : Forest) → IsForest t → (from to v i : ℕ) (b : Bool) → (from == v) ≡ b → (added t from to).place v ≡ Some i → i < length t.parents + 1
inside_added t h from to v i true is e = let at : length t.parents ≡ i = some_same (sym (placed_here t.place from (length t.parents) v is) ∙ e) in omega (arith, at)
inside_added t h from to v i false is e = omega (arith, h.inside v i (sym (placed_there t.place from (length t.parents) v is) ∙ e))

later_added : (t : Forest) → IsForest t → (from to v i j : ℕ) (b c : Bool) → (from == v) ≡ b → (from == parent_at (added t from to) i) ≡ c → t.place to ≡ None → (from == to) ≡ false
    → (added t from to).place v ≡ Some i → (added t from to).place (parent_at (added t from to) i) ≡ Some j → i < j
later_added t h from to v i j true c is it free other e f =
    let at : length t.parents ≡ i = some_same (sym (placed_here t.place from (length t.parents) v is) ∙ e) in
    let parent : parent_at (added t from to) i ≡ to = ap (λ k. parent_at (added t from to) k) (sym at) ∙ get_or-append_seam t.parents to [] 0 in
    let nowhere : (added t from to).place to ≡ None = placed_there t.place from (length t.parents) to other ∙ free in
    absurd (some_none (sym f ∙ ap (added t from to).place parent ∙ nowhere))
later_added t h from to v i j false true is it free other e f =
    let at : length t.parents ≡ j = some_same (sym (placed_here t.place from (length t.parents) (parent_at (added t from to) i) it) ∙ f) in
    let below : i < length t.parents = h.inside v i (sym (placed_there t.place from (length t.parents) v is) ∙ e) in
    omega (arith, at, below)
later_added t h from to v i j false false is it free other e f =
    let old : t.place v ≡ Some i = sym (placed_there t.place from (length t.parents) v is) ∙ e in
    let parent : parent_at (added t from to) i ≡ parent_at t i = get_or_append_left t.parents (to ∷ []) 0 i (h.inside v i old) in
    h.later v i j old (sym (ap t.place parent) ∙ sym (placed_there t.place from (length t.parents) (parent_at (added t from to) i) it) ∙ f)

pub forest_added : (t : Forest) → IsForest t → (from to : ℕ) → t.place from ≡ None → t.place to ≡ None → (from == to) ≡ false → IsForest (added t from to)
forest_added t h from to given free other = record {
  inside = λ v i e. subst (λ n. i < n) (sym (length-append t.parents (to ∷ []))) (inside_added t h from to v i (from == v) refl e);
  later = λ v i j e f. later_added t h from to v i j (from == v) (from == parent_at (added t from to) i) refl refl free other e f;
}

-- each value that stood for the one that is given up stands for the other one
pub standing_added : (t : Forest) → IsForest t → (from to : ℕ) → t.place from ≡ None → t.place to ≡ None → (from == to) ≡ false
    → (v : ℕ) → standing (added t from to) v ≡ replaced from to (standing t v)
standing_added t h from to given free other v =
    standing_is (added t from to) (forest_added t h from to given free other) v (replaced from to (standing t v))
    (added_leads t h from to given free other v (standing t v) (standing_leads t h v))

-- Nearer to the end

pub nearer_parent : (t : Forest) → IsForest t → (v i p : ℕ) (o : Option ℕ) → t.place v ≡ Some i → o ≡ t.place p → o ≡ None → places_left t p < places_left t v
unfolding places_left
nearer_parent t h v i p o e is f =
    let there : from_place t (t.place p) ≡ 0 = ap (from_place t) (sym is ∙ f) in
    let here : from_place t (t.place v) ≡ length t.parents - i = ap (from_place t) e in
    omega (arith, there, here, h.inside v i e)

parent_left : (t : Forest) → IsForest t → (v i : ℕ) (o : Option ℕ) → t.place v ≡ Some i → t.place (parent_at t i) ≡ o → from_place t o < length t.parents - i
parent_left t h v i None e f = omega (arith, h.inside v i e)
parent_left t h v i (Some j) e f = omega (arith, h.later v i j e f, h.inside (parent_at t i) j f)

pub nearer_step : (t : Forest) → IsForest t → (v i r : ℕ) (o : Option ℕ) → o ≡ t.place v → o ≡ Some i → r ≡ parent_at t i → places_left t r < places_left t v
unfolding places_left
nearer_step t h v i r o is e same =
    let here : from_place t (t.place v) ≡ length t.parents - i = ap (from_place t) (sym is ∙ e) in
    let less : from_place t (t.place (parent_at t i)) < length t.parents - i = parent_left t h v i (t.place (parent_at t i)) (sym is ∙ e) refl in
    let there : from_place t (t.place r) ≡ from_place t (t.place (parent_at t i)) = ap (λ q. from_place t (t.place q)) same in
    omega (arith, here, less, there)

pub same_step : (t : Forest) → IsForest t → (v i r : ℕ) (o : Option ℕ) → o ≡ t.place v → o ≡ Some i → r ≡ parent_at t i → standing t r ≡ standing t v
same_step t h v i r o is e same = ap (standing t) same ∙ stands_further t h v i (sym is ∙ e)

pub end_here : (t : Forest) → IsForest t → (v : ℕ) (o : Option ℕ) → o ≡ t.place v → o ≡ None → standing t v ≡ v
end_here t h v o is e = stands_itself t h v (sym is ∙ e)

further_left : (t : Forest) → IsForest t → (v i j : ℕ) (o : Option ℕ) → t.place v ≡ Some i → t.place (parent_at t i) ≡ Some j → t.place (parent_at t j) ≡ o → from_place (halved t i j) o < length t.parents - i
further_left t h v i j None e f g = omega (arith, h.inside v i e)
further_left t h v i j (Some k) e f g =
    let size : length (set t.parents i (parent_at t j)) ≡ length t.parents = length-set t.parents i (parent_at t j) in
    let first : i < j = h.later v i j e f in
    let second : j < k = h.later (parent_at t i) j k f g in
    let inside : k < length t.parents = h.inside (parent_at t j) k g in
    omega (arith, size, first, second, inside)

pub nearer_further : (t u : Forest) → IsForest t → (v i j r : ℕ) → t.place v ≡ Some i → t.place (parent_at t i) ≡ Some j → u ≡ halved t i j → r ≡ parent_at t j → places_left u r < places_left t v
unfolding places_left
nearer_further t u h v i j r e f new is =
    let here : from_place t (t.place v) ≡ length t.parents - i = ap (from_place t) e in
    let less : from_place (halved t i j) (t.place (parent_at t j)) < length t.parents - i = further_left t h v i j (t.place (parent_at t j)) e f refl in
    let there : from_place u (u.place r) ≡ from_place (halved t i j) (t.place (parent_at t j)) = ap (λ (w : Forest). from_place w (w.place r)) new ∙ ap (λ q. from_place (halved t i j) (t.place q)) is in
    omega (arith, here, less, there)

-- a value that stands for itself has no place
pub no_place_itself : (t : Forest) → IsForest t → (v : ℕ) → standing t v ≡ v → t.place v ≡ None
no_place_itself t h v e = subst (λ r. t.place r ≡ None) e (end_free t v (standing t v) (standing_leads t h v))

-- what a value stands for stands for itself
pub standing_twice : (t : Forest) → IsForest t → (v : ℕ) → standing t (standing t v) ≡ standing t v
standing_twice t h v = stands_itself t h (standing t v) (end_free t v (standing t v) (standing_leads t h v))

-- the same behind a call
pub forest_behind : (t u : Forest) → IsForest t → (from to : ℕ) → standing t from ≡ from → standing t to ≡ to → (from == to) ≡ false → u ≡ added t from to → IsForest u
forest_behind t u h from to given free other new =
    subst IsForest (sym new) (forest_added t h from to (no_place_itself t h from given) (no_place_itself t h to free) other)

pub standing_behind : (t u : Forest) → IsForest t → (from to : ℕ) → standing t from ≡ from → standing t to ≡ to → (from == to) ≡ false → u ≡ added t from to
    → (v : ℕ) → standing u v ≡ replaced from to (standing t v)
standing_behind t u h from to given free other new v =
    ap (λ (w : Forest). standing w v) new ∙ standing_added t h from to (no_place_itself t h from given) (no_place_itself t h to free) other v

-- no value stands for one that was given up
pub given_up : (t : Forest) → IsForest t → (from to i v : ℕ) (o : Option ℕ) → o ≡ t.place from → o ≡ Some i → standing t v ≡ replaced from to (standing t v)
given_up t h from to i v o is e = sym (at_end (standing t v) (standing t v == from) refl (end_free t v (standing t v) (standing_leads t h v)))
  where
    at_end : (r : ℕ) (b : Bool) → (r == from) ≡ b → t.place r ≡ None → (if b then to else r) ≡ r
    at_end r true same free = let it : r ≡ from = (Decides-eqb r from).0 same in absurd (some_none (sym (sym is ∙ e) ∙ sym (ap t.place it) ∙ free))
    at_end r false same free = refl

-- a value that is given up for itself
pub for_itself : (from to r : ℕ) → (from == to) ≡ true → r ≡ replaced from to r
for_itself from to r same = sym (at_end (r == from) refl)
  where
    at_end : (b : Bool) → (r == from) ≡ b → (if b then to else r) ≡ r
    at_end true is = sym ((Decides-eqb from to).0 same) ∙ sym ((Decides-eqb r from).0 is)
    at_end false is = refl

-- a new table
pub standing_new : (t : Forest) → ((v : ℕ) → t.place v ≡ None) → IsForest t → standing t ≡ (λ v. v)
standing_new t none h = fun_ext (λ v. stands_itself t h v (none v))

pub ruleset forest_laws = (common_steps, stands_itself, stands_further, standing_halved, standing_new, given_up, for_itself, standing_added, forest_added)
