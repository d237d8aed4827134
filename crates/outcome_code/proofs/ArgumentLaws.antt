-- Arguments one after another.
use Rattle.std.proofs.Common.{◌≡◌, ℕ, ℤ, zero, suc, ◌+◌, ◌<◌, ◌≤◌, List, [], ◌∷◌, ◌++◌, map, drop, length, Bool, true, false, Option, Some, None, refl, sym, ap, ap₂, ◌∙◌, append_assoc, arith, if◌then◌else◌}
use Rattle.std.specs.List.{slice_get}
use Rattle.std.proofs.lemmas.List.{map-append}
use Rattle.std.proofs.lemmas.Option.{none-some}
use Rattle.number_model.specs.Numbers.{wrapped}
use Rattle.number_model.specs.Answers.{Answer, Gives, with_answer}
use Rattle.number_model.specs.Answers.{Answer as answer}
use Rattle.operation_model.specs.Values as values
use Rattle.meaning_model.specs.Meaning.{arguments, fits}
use Rattle.run_code.specs.declared.width.Width.{Width}
use Rattle.run_code.specs.Views.{bits_of}
use Rattle.value_code.specs.declared.value.Value.{Value}
use Rattle.value_code.specs.declared.value.Value as value
use Rattle.value_code.specs.Models.{value_of, values_of}
use Rattle.value_code.proofs.Shapes.{value_of-Integer}
use Rattle.table_code.proofs.TableLaws.{drop_at, drop_whole}
use Rattle.call_code.specs.Lists.{before}

nil_behind : {A : Type 0} (xs : List A) → xs ++ [] ≡ xs
nil_behind [] = refl
nil_behind (x ∷ xs) = ap (λ l. x ∷ l) (nil_behind xs)

drop_past : {A : Type 0} (xs : List A) (i : ℕ) → slice_get xs i ≡ None → drop i xs ≡ []
drop_past [] zero e = refl
drop_past [] (suc i) e = refl
drop_past (y ∷ ys) zero e = absurd (none-some y (sym e))
drop_past (y ∷ ys) (suc i) e = drop_past ys i e

-- what is still to come, at a place
at_place : (ws : List Width) (zs : List ℤ) (i : ℕ) (w : Width) (z : ℤ) → slice_get ws i ≡ Some w → slice_get zs i ≡ Some z
    → arguments (bits_of (drop i ws)) (drop i zs) ≡ (if fits w.bits z then with_answer (λ vs. values.Integer (wrapped w.bits z) ∷ vs) (arguments (bits_of (drop (i + 1) ws)) (drop (i + 1) zs)) else answer.Outside)
at_place ws zs i w z at_w at_z = ap₂ (λ l m. arguments (bits_of l) m) (drop_at ws i w at_w) (drop_at zs i z at_z)

moved_in : (all new : List Value) (v : values.Value) (rest : Answer (List values.Value)) → values_of new ≡ values_of all ++ v ∷ [] → before new rest ≡ before all (with_answer (λ vs. v ∷ vs) rest)
moved_in all new v (Gives vs) e = ap (λ l. Gives (l ++ vs)) e ∙ ap (λ l. Gives l) (append_assoc (values_of all) (v ∷ []) vs)
moved_in all new v answer.Undefined e = refl
moved_in all new v answer.Outside e = refl

pub one_more : (ws : List Width) (zs : List ℤ) (i : ℕ) (w : Width) (z : ℤ) (n : ℕ) (all new : List Value) → slice_get ws i ≡ Some w → slice_get zs i ≡ Some z → fits w.bits z ≡ true → n ≡ wrapped w.bits z → new ≡ all ++ value.Integer n ∷ []
    → before all (arguments (bits_of (drop i ws)) (drop i zs)) ≡ arguments (bits_of ws) zs → before new (arguments (bits_of (drop (i + 1) ws)) (drop (i + 1) zs)) ≡ arguments (bits_of ws) zs
one_more ws zs i w z n all new at_w at_z fit is e so =
    moved_in all new (values.Integer (wrapped w.bits z)) (arguments (bits_of (drop (i + 1) ws)) (drop (i + 1) zs))
    (ap values_of e ∙ map-append value_of all (value.Integer n ∷ []) ∙ ap (λ v. values_of all ++ v ∷ []) (value_of-Integer n ∙ ap (λ k. values.Integer k) is))
    ∙ sym (ap (before all) (at_place ws zs i w z at_w at_z ∙ ap (λ b. if b then with_answer (λ vs. values.Integer (wrapped w.bits z) ∷ vs) (arguments (bits_of (drop (i + 1) ws)) (drop (i + 1) zs)) else answer.Outside) fit))
    ∙ so

pub unfit : (ws : List Width) (zs : List ℤ) (i : ℕ) (w : Width) (z : ℤ) (all : List Value) → slice_get ws i ≡ Some w → slice_get zs i ≡ Some z → fits w.bits z ≡ false
    → before all (arguments (bits_of (drop i ws)) (drop i zs)) ≡ arguments (bits_of ws) zs → answer.Outside ≡ arguments (bits_of ws) zs
unfit ws zs i w z all at_w at_z fit so =
    sym (ap (before all) (at_place ws zs i w z at_w at_z ∙ ap (λ b. if b then with_answer (λ vs. values.Integer (wrapped w.bits z) ∷ vs) (arguments (bits_of (drop (i + 1) ws)) (drop (i + 1) zs)) else answer.Outside) fit))
    ∙ so

pub too_few : (ws : List Width) (zs : List ℤ) (i : ℕ) (w : Width) (all : List Value) → slice_get ws i ≡ Some w → slice_get zs i ≡ None
    → before all (arguments (bits_of (drop i ws)) (drop i zs)) ≡ arguments (bits_of ws) zs → answer.Outside ≡ arguments (bits_of ws) zs
too_few ws zs i w all at_w at_z so = sym (ap (before all) (ap₂ (λ l m. arguments (bits_of l) m) (drop_at ws i w at_w) (drop_past zs i at_z))) ∙ so

some_left : (zs : List ℤ) (i : ℕ) → i < length zs → arguments [] (drop i zs) ≡ answer.Outside
some_left [] i lt = absurd (omega (arith, lt))
some_left (z ∷ zs) zero lt = refl
some_left (z ∷ zs) (suc i) lt = some_left zs i (omega (arith, lt))

pub too_many : (ws : List Width) (zs : List ℤ) (i : ℕ) (all : List Value) → length ws ≤ i → i < length zs
    → before all (arguments (bits_of (drop i ws)) (drop i zs)) ≡ arguments (bits_of ws) zs → answer.Outside ≡ arguments (bits_of ws) zs
too_many ws zs i all past lt so = sym (ap (before all) (ap (λ l. arguments (bits_of l) (drop i zs)) (drop_whole ws i past) ∙ some_left zs i lt)) ∙ so

pub all_there : (ws : List Width) (zs : List ℤ) (i : ℕ) (all : List Value) → length ws ≤ i → length zs ≤ i
    → before all (arguments (bits_of (drop i ws)) (drop i zs)) ≡ arguments (bits_of ws) zs → Gives (values_of all) ≡ arguments (bits_of ws) zs
all_there ws zs i all past end so =
    ap (λ l. Gives l) (sym (nil_behind (values_of all))) ∙ sym (ap (before all) (ap₂ (λ l m. arguments (bits_of l) m) (drop_whole ws i past) (drop_whole zs i end))) ∙ so
