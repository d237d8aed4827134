-- Numbers one after another.
use Rattle.std.proofs.Common.{◌≡◌, ℕ, ℤ, zero, suc, ◌+◌, List, [], ◌∷◌, ◌++◌, drop, Option, Some, None, refl, sym, ap, ap₂, subst, ◌∙◌, append_assoc, arith}
use Rattle.std.specs.List.{slice_get}
use Rattle.std.proofs.lemmas.Option.{same_Some, none-some}
use Rattle.number_model.specs.Numbers.{signed}
use Rattle.machine_model.specs.Worlds.{all_signed}
use Rattle.machine_model.specs.Worlds as model
use Rattle.run_code.specs.declared.width.Width.{Width}
use Rattle.run_code.specs.Views.{bits_of}
use Rattle.round_code.specs.Counts.{answer_for}

drop_on : {A : Type 0} (xs : List A) (i : ℕ) (x : A) → slice_get xs i ≡ Some x → drop i xs ≡ x ∷ drop (suc i) xs
drop_on [] i x e = absurd (none-some x e)
drop_on (y ∷ ys) zero x e = ap (λ z. z ∷ ys) (same_Some y x e)
drop_on (y ∷ ys) (suc i) x e = drop_on ys i x e

pub drop_at : {A : Type 0} (xs : List A) (i : ℕ) (x : A) → slice_get xs i ≡ Some x → drop i xs ≡ x ∷ drop (i + 1) xs
drop_at xs i x e = let next : suc i ≡ i + 1 = omega arith in drop_on xs i x e ∙ ap (λ j. x ∷ drop j xs) next

drop_past : {A : Type 0} (xs : List A) (i : ℕ) → slice_get xs i ≡ None → drop i xs ≡ []
drop_past [] zero e = refl
drop_past [] (suc i) e = refl
drop_past (y ∷ ys) zero e = absurd (none-some y (sym e))
drop_past (y ∷ ys) (suc i) e = drop_past ys i e

abbrev is_empty : {A : Type 0} → List A → Type 0
is_empty [] = Unit {0}
is_empty (x ∷ xs) = ⊥

drop_later : {A : Type 0} (xs : List A) (i : ℕ) → drop i xs ≡ [] → drop (suc i) xs ≡ []
drop_later [] i e = refl
drop_later (y ∷ ys) zero e = absurd (subst is_empty (sym e) tt)
drop_later (y ∷ ys) (suc i) e = drop_later ys i e

nil_behind : {A : Type 0} (xs : List A) → xs ++ [] ≡ xs
nil_behind [] = refl
nil_behind (x ∷ xs) = ap (λ l. x ∷ l) (nil_behind xs)

-- one number more
front_moved : {A : Type 0} (all new : List A) (x : A) (rest : List A) → new ≡ all ++ x ∷ [] → new ++ rest ≡ all ++ x ∷ rest
front_moved all new x rest e = ap (λ l. l ++ rest) e ∙ append_assoc all (x ∷ []) rest

pub signed_more : (ws : List Width) (ns : List ℕ) (i : ℕ) (w : Width) (n : ℕ) (z : ℤ) (all new : List ℤ) → slice_get ws i ≡ Some w → slice_get ns i ≡ Some n → z ≡ signed w.bits n → new ≡ all ++ z ∷ []
    → all ++ all_signed (bits_of (drop i ws)) (drop i ns) ≡ all_signed (bits_of ws) ns → new ++ all_signed (bits_of (drop (i + 1) ws)) (drop (i + 1) ns) ≡ all_signed (bits_of ws) ns
signed_more ws ns i w n z all new at_w at_n is e so =
    front_moved all new z (all_signed (bits_of (drop (i + 1) ws)) (drop (i + 1) ns)) e
    ∙ ap (λ x. all ++ x ∷ all_signed (bits_of (drop (i + 1) ws)) (drop (i + 1) ns)) is
    ∙ sym (ap₂ (λ l m. all ++ all_signed (bits_of l) m) (drop_at ws i w at_w) (drop_at ns i n at_n)) ∙ so

none_signed : (ws : List ℕ) → all_signed ws [] ≡ []
none_signed [] = refl
none_signed (w ∷ ws) = refl

pub signed_end : (ws : List Width) (ns : List ℕ) (i : ℕ) (all : List ℤ) → slice_get ns i ≡ None
    → all ++ all_signed (bits_of (drop i ws)) (drop i ns) ≡ all_signed (bits_of ws) ns → all ≡ all_signed (bits_of ws) ns
signed_end ws ns i all at so =
    sym (nil_behind all) ∙ sym (ap (λ l. all ++ l) (ap (all_signed (bits_of (drop i ws))) (drop_past ns i at) ∙ none_signed (bits_of (drop i ws)))) ∙ so

next_answered : (o : Option ℤ) (w : ℕ) (ws : List ℕ) (answers : List ℤ) (i : ℕ) → slice_get answers i ≡ o → model.answered (w ∷ ws) (drop i answers) ≡ answer_for w o ∷ model.answered ws (drop (i + 1) answers)
next_answered None w ws answers i e =
    let next : suc i ≡ i + 1 = omega arith in
    ap (model.answered (w ∷ ws)) (drop_past answers i e) ∙ ap (λ l. 0 ∷ model.answered ws l) (sym (ap (λ j. drop j answers) (sym next) ∙ drop_later answers i (drop_past answers i e)))
next_answered (Some z) w ws answers i e = ap (model.answered (w ∷ ws)) (drop_at answers i z e)

pub answered_more : (ws : List Width) (answers : List ℤ) (i : ℕ) (w : Width) (n : ℕ) (all new : List ℕ) → slice_get ws i ≡ Some w → n ≡ answer_for w.bits (slice_get answers i) → new ≡ all ++ n ∷ []
    → all ++ model.answered (bits_of (drop i ws)) (drop i answers) ≡ model.answered (bits_of ws) answers
    → new ++ model.answered (bits_of (drop (i + 1) ws)) (drop (i + 1) answers) ≡ model.answered (bits_of ws) answers
answered_more ws answers i w n all new at is e so =
    front_moved all new n (model.answered (bits_of (drop (i + 1) ws)) (drop (i + 1) answers)) e
    ∙ ap (λ x. all ++ x ∷ model.answered (bits_of (drop (i + 1) ws)) (drop (i + 1) answers)) is
    ∙ sym (ap (λ l. all ++ l) (ap (λ l. model.answered (bits_of l) (drop i answers)) (drop_at ws i w at) ∙ next_answered (slice_get answers i) w.bits (bits_of (drop (i + 1) ws)) answers i refl)) ∙ so
