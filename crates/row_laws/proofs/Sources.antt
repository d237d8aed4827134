-- Sources of steps: operands in order, and lists of so many elements.
use Rattle.std.proofs.Common.{◌≡◌, ℕ, suc, ◌+◌, List, [], ◌∷◌, length, Some, refl, ap, ap₂, ◌∙◌, arith}
use Rattle.std.specs.Prelude.{map, slice_get}
use Rattle.conversion_model.specs.declared.templates.Source.TheVariants.{Operand}
use Rattle.conversion_model.specs.Chosen.{places}
use Rattle.sound_model.specs.Runs.{and_item, items_of}

-- lists of none, one, two and three
pub no_items : {A : Type 0} (P : List A → Type 0) → P [] → (xs : List A) → length xs ≡ 0 → P xs
no_items P h [] is = h
no_items P h (x ∷ xs) is = absurd (omega (arith, is))

pub one_item : {A : Type 0} (P : List A → Type 0) → ((x : A) → P (x ∷ [])) → (xs : List A) → length xs ≡ 1 → P xs
one_item P h [] is = absurd (omega (arith, is))
one_item P h (x ∷ []) is = h x
one_item P h (x ∷ y ∷ xs) is = absurd (omega (arith, is))

pub two_items : {A : Type 0} (P : List A → Type 0) → ((x y : A) → P (x ∷ y ∷ [])) → (xs : List A) → length xs ≡ 2 → P xs
two_items P h [] is = absurd (omega (arith, is))
two_items P h (x ∷ []) is = absurd (omega (arith, is))
two_items P h (x ∷ y ∷ []) is = h x y
two_items P h (x ∷ y ∷ z ∷ xs) is = absurd (omega (arith, is))

pub three_items : {A : Type 0} (P : List A → Type 0) → ((x y z : A) → P (x ∷ y ∷ z ∷ [])) → (xs : List A) → length xs ≡ 3 → P xs
three_items P h [] is = absurd (omega (arith, is))
three_items P h (x ∷ []) is = absurd (omega (arith, is))
three_items P h (x ∷ y ∷ []) is = absurd (omega (arith, is))
three_items P h (x ∷ y ∷ z ∷ []) is = h x y z
three_items P h (x ∷ y ∷ z ∷ u ∷ xs) is = absurd (omega (arith, is))

-- operands from the k-th on
from_place : {A B : Type 0} (all made xs : List A) (ys : List B) (k : ℕ) → ((i : ℕ) → slice_get all (k + i) ≡ slice_get xs i) → length xs ≡ length ys
    → items_of all made (map Operand (places k ys)) ≡ Some xs
from_place all made [] [] k at same = refl
from_place all made [] (y ∷ ys) k at same = absurd (omega (arith, same))
from_place all made (x ∷ xs) [] k at same = absurd (omega (arith, same))
from_place all made (x ∷ xs) (y ∷ ys) k at same =
    ap₂ and_item (ap (slice_get all) (omega arith) ∙ at 0)
    (from_place all made xs ys (k + 1) (λ i. ap (slice_get all) (omega arith) ∙ at (suc i)) (omega (arith, same)))

-- all operands in order
pub all_operands : {A B : Type 0} (all made : List A) (ys : List B) → length all ≡ length ys → items_of all made (map Operand (places 0 ys)) ≡ Some all
all_operands all made ys same = from_place all made all ys 0 (λ i. ap (slice_get all) (omega arith)) same
