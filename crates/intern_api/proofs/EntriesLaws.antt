-- How a table is searched and grows.
use Rattle.std.specs.Prelude.{◌≡◌, ◌⊎◌, ℕ, zero, suc, Bool, true, false, cond, ◌||◌, List, [], ◌∷◌, ◌++◌, Option, Some, slice_get, length, Result, Ok, Err, IfOk, OnErr, min, ◌<◌, ◌^◌}
use Rattle.std.specs.List.{list_any, find}
use Rattle.std.specs.Bool.{Decides}
use Rattle.std.proofs.Common.{sym, ◌∙◌, ap, subst, refl, inl, inr, arith}
use Rattle.std.proofs.lemmas.Grind.{common_steps}
use Rattle.std.proofs.lemmas.Option.{same_Some, none-some, slice_get_within}
use Rattle.indexmap.specs.IndexSet.{insert_key}
use mathlib.Core.Bool.{true≢false}
use native.Mathlib.Nat.{suc-ne-zero}
use Rattle.key_model.specs.declared.entry.Entry.{Entry}
use Rattle.key_model.specs.declared.handle.Handle.{Handle}
use Rattle.key_model.specs.Equal.{alike_entry, alike_entry-Decides}
use Rattle.intern_api.specs.Entries.{AreDistinct, IsAbsent, StandsAt, IsPut}

module _ {X : Type 0} (eq : X → X → Bool) (same : (a b : X) → Decides (eq a b) (a ≡ b)) where
  absent_at : (b : Bool) (e : X) (k : X) (ks : List X) → Decides b (e ≡ k) → ((i : ℕ) → slice_get (k ∷ ks) i ≡ Some e → ⊥) → list_any (eq e) ks ≡ false → (b || list_any (eq e) ks) ≡ false
  absent_at true e k ks d f r = absurd (f 0 (ap Some (sym (d.0 refl))))
  absent_at false e k ks d f r = r

  pub any_none : (e : X) (ks : List X) → ((i : ℕ) → slice_get ks i ≡ Some e → ⊥) → list_any (eq e) ks ≡ false
  any_none e [] f = refl
  any_none e (k ∷ ks) f = absent_at (eq e k) e k ks (same e k) f (any_none e ks (λ i. f (suc i)))

  or_false : (p q : Bool) → (p || q) ≡ false → (p ≡ false) × (q ≡ false)
  or_false true q e = absurd (true≢false e)
  or_false false q e = (refl, e)

  pub none_any : (e : X) (ks : List X) → list_any (eq e) ks ≡ false → (i : ℕ) → slice_get ks i ≡ Some e → ⊥
  none_any e [] r i at = none-some e at
  none_any e (k ∷ ks) r zero at = true≢false (sym ((same e k).1 (sym (same_Some k e at))) ∙ (or_false _ _ r).0)
  none_any e (k ∷ ks) r (suc i) at = none_any e ks (or_false _ _ r).1 i at

  -- what the search finds is what was sought
  found_at : (b : Bool) (e k x : X) (o : Option X) → Decides b (e ≡ k) → (o ≡ Some x → e ≡ x) → cond b (Some k) o ≡ Some x → e ≡ x
  found_at true e k x o d later at = d.0 refl ∙ same_Some k x at
  found_at false e k x o d later at = later at

  pub found_same : (e : X) (ks : List X) (x : X) → find (eq e) ks ≡ Some x → e ≡ x
  found_same e [] x at = absurd (none-some x at)
  found_same e (k ∷ ks) x at = found_at (eq e k) e k x (find (eq e) ks) (same e k) (found_same e ks x) at

-- places in a list that is longer by one
pub get_left : {X : Type 0} (ks ls : List X) (i : ℕ) (x : X) → slice_get ks i ≡ Some x → slice_get (ks ++ ls) i ≡ Some x
get_left [] ls i x at = absurd (none-some x at)
get_left (k ∷ ks) ls zero x at = at
get_left (k ∷ ks) ls (suc i) x at = get_left ks ls i x at

pub get_last : {X : Type 0} (ks : List X) (x : X) (n : ℕ) → n ≡ length ks → slice_get (ks ++ x ∷ []) n ≡ Some x
get_last [] x zero e = refl
get_last [] x (suc n) e = absurd (suc-ne-zero n e)
get_last (k ∷ ks) x zero e = let no : ⊥ = omega (arith) in absurd no
get_last (k ∷ ks) x (suc n) e = get_last ks x n (omega arith)

pub get_more : {X : Type 0} (ks : List X) (x : X) (i : ℕ) (y : X) → slice_get (ks ++ x ∷ []) i ≡ Some y → (slice_get ks i ≡ Some y) ⊎ ((i ≡ length ks) × (x ≡ y))
get_more [] x zero y at = inr (refl, same_Some x y at)
get_more [] x (suc i) y at = absurd (none-some y at)
get_more (k ∷ ks) x zero y at = inl at
get_more (k ∷ ks) x (suc i) y at = elim (get_more ks x i y at) as (λ _. (slice_get ks i ≡ Some y) ⊎ ((suc i ≡ length (k ∷ ks)) × (x ≡ y))) [ inl was ↦ inl was | inr new ↦ inr (omega (arith, new.0), new.1) ]

-- a list of distinct entries stays one behind an entry that wasn't in it
pub distinct_more : (ks : List Entry) (e : Entry) → AreDistinct ks → IsAbsent e ks → AreDistinct (ks ++ e ∷ [])
distinct_more ks e distinct absent i j f at bt =
    elim (get_more ks e i f at) as (λ _. i ≡ j) [
      | inl was ↦ elim (get_more ks e j f bt) as (λ _. i ≡ j) [
        | inl wbs ↦ distinct i j f was wbs
        | inr new ↦ absurd (absent i (was ∙ ap Some (sym new.1)))
      ]
      | inr new ↦ elim (get_more ks e j f bt) as (λ _. i ≡ j) [
        | inl wbs ↦ absurd (absent j (wbs ∙ ap Some (sym new.1)))
        | inr mew ↦ new.0 ∙ sym mew.0
      ]
    ]

pub put_more : (shard : ℕ) (ks : List Entry) (e : Entry) (h : Handle) → h.shard ≡ shard → h.place ≡ length ks → IsPut shard ks (ks ++ e ∷ []) e h
put_more shard ks e h of_shard last = record {
  stands = record { of_shard = of_shard; is = get_last ks e h.place last };
  kept = λ i f at. get_left ks (e ∷ []) i f at;
  only = λ i f at. elim (get_more ks e i f at) as (λ _. (slice_get ks i ≡ Some f) ⊎ (i ≡ h.place)) [ inl was ↦ inl was | inr new ↦ inr (new.0 ∙ sym last) ];
}

pub put_found : (shard : ℕ) (ks : List Entry) (e : Entry) (h : Handle) → StandsAt shard ks e h → IsPut shard ks ks e h
put_found shard ks e h stands = record { stands = stands; kept = λ i f at. at; only = λ i f at. inl at }

-- where the entry isn't there, it goes last
pub inserted : (e : Entry) (ks : List Entry) → IsAbsent e ks → insert_key alike_entry ks e ≡ ks ++ e ∷ []
inserted e ks absent = ap (λ b. cond b ks (ks ++ e ∷ [])) (any_none alike_entry alike_entry-Decides e ks absent)

pub distinct_insert : {A F : Type 0} (ks ks' : List Entry) (e : Entry) (r : Result A F) → IfOk r (λ _. ks' ≡ insert_key alike_entry ks e) → OnErr r (ks' ≡ ks) → AreDistinct ks → IsAbsent e ks → AreDistinct ks'
distinct_insert ks ks' e (Ok a) more same distinct absent = subst AreDistinct (sym (more ∙ inserted e ks absent)) (distinct_more ks e distinct absent)
distinct_insert ks ks' e (Err f) more same distinct absent = subst AreDistinct (sym same) distinct

-- the place that the search finds, as a handle
pub stands_found : (shard : ℕ) (ks : List Entry) (e x : Entry) (place : ℕ) (h : Handle) → length ks < 2 ^ 32 → Some x ≡ find (alike_entry e) ks → slice_get ks place ≡ Some x → h.shard ≡ shard → h.place ≡ min place 4294967295 → StandsAt shard ks e h
stands_found shard ks e x place h small key stored of_shard is =
    let within : place < length ks = slice_get_within ks place x stored in
    let same : h.place ≡ place = is ∙ omega arith in
    record { of_shard = of_shard; is = ap (slice_get ks) same ∙ stored ∙ ap Some (sym (found_same alike_entry alike_entry-Decides e ks x (sym key))) }

pub ruleset table_laws = (common_steps, inserted, put_found)
