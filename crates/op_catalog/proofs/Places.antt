-- The table's names are the first of the known ones, in the same order.
use Rattle.std.proofs.Common.{◌≡◌, ℕ, zero, suc, ◌+◌, ◌<◌, ◌≤◌, Bool, true, false, List, [], ◌∷◌, Option, Some, None, refl, sym, ap, ◌∙◌, map, length, get_or, true≢false, arith}
use Rattle.std.specs.Prelude.{◌&&◌, if◌then◌else◌}
use Rattle.std.specs.Option.{option_map}
use Rattle.std.specs.Str.{bytes_eq}
use Rattle.std.proofs.lemmas.Option.{none-some}
use Rattle.std.proofs.lemmas.Slice.Eq.{bytes_eq-Decides}
use Rattle.tree_model.specs.Known.{known, known_text, IsUnknown, StandsAt}
use Rattle.tree_model.proofs.KnownLaws.{one_number}
use Rattle.rule_model.specs.declared.shapes.Shape.{Shape}
use Rattle.rule_model.specs.declared.shapes.Shape.TheVariants.{Module}
use Rattle.rule_model.specs.Rows.{place_in, Row, rows, shape_in}
use Rattle.rule_model.proofs.Numbers.{and_first, and_second, some_same}
use Rattle.op_catalog.specs.Table.{place_of, shape_at, shape_of}

same_text : (xs ys : List ℕ) → bytes_eq xs ys ≡ true → xs ≡ ys
same_text xs ys e = (bytes_eq-Decides xs ys).0 e

-- the names of rows are the known texts from n on
abbrev all_named : ℕ → List Row → Bool
all_named n [] = true
all_named n (r ∷ rs) = bytes_eq r.0 (known_text n) && all_named (n + 1) rs

rows_named : all_named 0 rows ≡ true
unfolding known known_text
rows_named = refl

rows_count : length rows ≡ 79
rows_count = refl

place_found : (name : List ℕ) (n k : ℕ) (rs : List Row) → all_named n rs ≡ true → n + length rs ≤ 105 → k < length rs → known_text (n + k) ≡ name
    → place_in name rs ≡ Some k
place_found name n k [] named room below is = absurd (omega (arith, below))
place_found name n k (r ∷ rs) named room below is = go k (omega (arith, below)) is (bytes_eq r.0 name) refl (λ j less same. place_found name (n + 1) j rs (and_second _ _ named) (omega (arith, room)) less same)
  where
    first : r.0 ≡ known_text n
    first = same_text r.0 (known_text n) (and_first _ _ named)

    go : (k : ℕ) → k < length rs + 1 → known_text (n + k) ≡ name → (b : Bool) → bytes_eq r.0 name ≡ b
        → ((j : ℕ) → j < length rs → known_text (n + 1 + j) ≡ name → place_in name rs ≡ Some j)
        → (if b then Some 0 else option_map (λ m. m + 1) (place_in name rs)) ≡ Some k
    go zero less same true e rest = refl
    go (suc j) less same true e rest =
        let both : n ≡ n + suc j = one_number n (n + suc j) (omega (arith, room)) (omega (arith, room, less)) (sym first ∙ same_text r.0 name e ∙ sym same) in
        absurd (omega (arith, both))
    go zero less same false e rest =
        absurd (true≢false (sym ((bytes_eq-Decides r.0 name).1 (first ∙ ap known_text (omega arith) ∙ same)) ∙ e))
    go (suc j) less same false e rest =
        ap (option_map (λ m. m + 1)) (rest j (omega (arith, less)) (ap known_text (omega arith) ∙ same)) ∙ ap Some (omega arith)

place_none : (name : List ℕ) (n : ℕ) (rs : List Row) → all_named n rs ≡ true → ((k : ℕ) → k < length rs → known_text (n + k) ≡ name → ⊥) → place_in name rs ≡ None
place_none name n [] named never = refl
place_none name n (r ∷ rs) named never =
    go (bytes_eq r.0 name) refl (place_none name (n + 1) rs (and_second _ _ named) (λ k less same. never (suc k) (omega (arith, less)) (ap known_text (omega arith) ∙ same)))
  where
    go : (b : Bool) → bytes_eq r.0 name ≡ b → place_in name rs ≡ None → (if b then Some 0 else option_map (λ m. m + 1) (place_in name rs)) ≡ None
    go true e rest =
        absurd (never 0 (omega arith) (ap known_text (omega arith) ∙ sym (same_text r.0 (known_text n) (and_first _ _ named)) ∙ same_text r.0 name e))
    go false e rest = ap (option_map (λ m. m + 1)) rest

abbrev shapes_in : List Row → List Shape
shapes_in rs = map (λ r. r.1) rs

shape_found : (name : List ℕ) (k : ℕ) (rs : List Row) → place_in name rs ≡ Some k → shape_in name rs ≡ Some (get_or (shapes_in rs) k Module)
shape_found name k [] e = absurd (none-some k e)
shape_found name k (r ∷ rs) e = go k (bytes_eq r.0 name) (place_in name rs) e refl (λ j same. shape_found name j rs same)
  where
    go : (k : ℕ) (b : Bool) (o : Option ℕ) → (if b then Some 0 else option_map (λ m. m + 1) o) ≡ Some k → place_in name rs ≡ o
        → ((j : ℕ) → place_in name rs ≡ Some j → shape_in name rs ≡ Some (get_or (shapes_in rs) j Module))
        → (if b then Some r.1 else shape_in name rs) ≡ Some (get_or (r.1 ∷ shapes_in rs) k Module)
    go k true o same is rest = ap (λ m. Some (get_or (r.1 ∷ shapes_in rs) m Module)) (some_same 0 k same)
    go k false None same is rest = absurd (none-some k same)
    go zero false (Some j) same is rest = absurd (omega (arith, some_same (j + 1) 0 same))
    go (suc i) false (Some j) same is rest =
        rest j is ∙ ap (λ m. Some (get_or (shapes_in rs) m Module)) (omega (arith, some_same (j + 1) (suc i) same))

-- What the code finds

pub found : (number : ℕ) (name : List ℕ) → StandsAt number name → number < 79 → place_of name ≡ Some number
unfolding place_of
found number name s less = place_found name 0 number rows rows_named (omega (arith, rows_count)) (omega (arith, rows_count, less)) (ap known_text (omega arith) ∙ s.1)

pub found_shape : (number : ℕ) (name : List ℕ) → StandsAt number name → number < 79 → shape_of name ≡ Some (shape_at number)
unfolding place_of shape_of shape_at
found_shape number name s less = shape_found name number rows (found number name s less)

pub later : (number : ℕ) (name : List ℕ) → StandsAt number name → 79 ≤ number → place_of name ≡ None
unfolding place_of
later number name s at_least =
    place_none name 0 rows rows_named (λ k less same.
    let here : k < 79 = omega (arith, less, rows_count) in
    let both : k ≡ number = one_number k number (omega (arith, here)) s.0 (ap known_text (omega arith) ∙ same ∙ sym s.1) in
    absurd (omega (arith, both, here, at_least)))

pub nowhere : (name : List ℕ) → IsUnknown name → place_of name ≡ None
unfolding place_of
nowhere name unknown =
    place_none name 0 rows rows_named (λ k less same. unknown.apart k (omega (arith, less, rows_count), ap known_text (omega arith) ∙ same))
