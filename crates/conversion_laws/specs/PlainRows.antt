-- Tables of straight rows that leave no copy.
use Rattle.std.specs.Prelude.{◌≡◌, ◌⊎◌, ℕ, ◌≤◌, false, true, List, [], ◌∷◌, Option, Some, length, slice_get}
use Rattle.std.specs.Str.{bytes_eq}
use Rattle.plain_tree.specs.Types.{PlainType}
use Rattle.conversion_model.specs.declared.templates.Source.{Source}
use Rattle.conversion_model.specs.declared.templates.Source.TheVariants.{Operand, Made}
use Rattle.conversion_model.specs.Templates.{Template, copy_name}
use Rattle.conversion_model.specs.Targets.{Shape, Target, is_legal}
use Rattle.conversion_model.specs.Rows.{Row, Straight, Cutting, Framing, Pattern}
use Rattle.conversion_model.specs.Chosen.{change_of}
use Rattle.sound_model.specs.Soundness.{IsFit}

abbrev pub IsStraightRow : Row → Type 0
IsStraightRow (Straight row) = Unit {0}
IsStraightRow (Cutting row) = ⊥
IsStraightRow (Framing row) = ⊥

abbrev pub AllOf : {A : Type 0} → (A → Type 0) → List A → Type 0
AllOf Q [] = Unit {0}
AllOf Q (x ∷ xs) = Q x × AllOf Q xs

-- each row of the table is straight
abbrev pub StraightTable : ℕ → List Pattern → Type 0
StraightTable bits table = AllOf (λ p. IsStraightRow (p.row bits)) table

-- a source of a row that is made, or an operand that is cast
pub data MadeOrCast (change : PlainType → Option PlainType) (types : List PlainType) : Source → Type 0 where
  is_made : {k : ℕ} → MadeOrCast change types (Made k)
  is_cast : {k : ℕ} {t u : PlainType} → slice_get types k ≡ Some t → change t ≡ Some u → MadeOrCast change types (Operand k)

-- each result is made, or cast, or of an operand that is cast
abbrev pub Uncopied : (PlainType → Option PlainType) → List PlainType → List PlainType → List Source → Type 0
Uncopied change types [] ss = Unit {0}
Uncopied change types (r ∷ rs) [] = Unit {0}
Uncopied change types (r ∷ rs) (s ∷ ss) = (MadeOrCast change types s ⊎ ((u : PlainType) × (change r ≡ Some u))) × Uncopied change types rs ss

-- what a row owes besides: at most one result, no regions, and no result that is a copy
pub record RowPlain (change : PlainType → Option PlainType) (o : Shape) (t : Template) : Type 0 where
  pub few : length o.results ≤ 1
  pub no_regions : o.regions ≡ 0
  pub uncopied : Uncopied change o.operands o.results t.results

abbrev pub RowIsPlain : List ℕ → (PlainType → Option PlainType) → Row → Type 0
RowIsPlain root change (Straight row) = (o : Shape) (t : Template) → o.name ≡ root → IsFit o → row o ≡ Some t → RowPlain change o t
RowIsPlain root change (Cutting row) = Unit {0}
RowIsPlain root change (Framing row) = Unit {0}

abbrev pub PatternPlain : ℕ → Pattern → Type 0
PatternPlain bits p = RowIsPlain p.root (change_of bits p.is_converted) (p.row bits)

-- a target by which no copy is legal
abbrev pub KnowsNoCopy : Target → Type 0
KnowsNoCopy target = (o : Shape) → is_legal target o ≡ true → bytes_eq o.name copy_name ≡ false
