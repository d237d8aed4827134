-- New values that are apart from those of an operation.
use Rattle.std.specs.Prelude.{◌≡◌, ℕ, ◌==◌, false, List, [], ◌∷◌, Some, slice_get, ⊤}
use Rattle.plain_tree.specs.Types.{PlainType, Void}
use Rattle.plain_tree.specs.Ops.{Op}
use Rattle.conversion_model.specs.Rows.{Numbers, Pattern}
use Rattle.conversion_model.specs.Fresh.{EachOp}
use Rattle.cut_code.specs.declared.pieces.CutValue.{CutValue}
use Rattle.cut_code.specs.declared.pieces.CutValue.TheVariants.{Old, New}
use Rattle.cut_code.specs.declared.pieces.PieceTree.{PieceTree}
use Rattle.cut_code.specs.declared.pieces.PieceTree.TheVariants.{Product, Opens, Held, Stands}
use Rattle.cut_code.specs.Pieces.{cutting_at, pieces_or_none}

-- no value of an operation, defined or used, has this number
abbrev pub Without : ℕ → Op → Type 0
Without x o = EachOp (λ n. (n == x) ≡ false) (λ l. ⊤) o

-- one new value at each place, none of them with a type or among those of an operation
pub record Separate (new : Numbers) (type_of : ℕ → PlainType) (o : Op) : Type 0 where
  pub one : (j k : ℕ) → (new.value j == new.value k) ≡ (j == k)
  pub untyped : (k : ℕ) → type_of (new.value k) ≡ Void
  pub apart : (k : ℕ) → Without (new.value k) o

-- no value that is there and has this number is an operand
abbrev pub NotOld : ℕ → List CutValue → Type 0
NotOld x [] = ⊤
NotOld x (Old n ∷ vs) = ((n == x) ≡ false) × NotOld x vs
NotOld x (New k ∷ vs) = NotOld x vs

-- nor one of a product
abbrev pub NotIn : ℕ → List PieceTree → Type 0
NotIn x [] = ⊤
NotIn x (Product p ∷ ps) = NotOld x p.operands × NotIn x ps
NotIn x (Opens label args ∷ ps) = NotIn x ps
NotIn x (Held r b ∷ ps) = NotIn x ps
NotIn x (Stands n t v ∷ ps) = NotIn x ps

-- Cuts take values that are there from their operation alone: where pieces are those of a row for all new numbers and all
-- types, then a number that the operation doesn't have is none of theirs.
abbrev pub TakesOwn : ℕ → List Pattern → Type 0
TakesOwn bits table = (k : ℕ) (o : Op) (ps : List PieceTree)
    → ((new : Numbers) (type_of : ℕ → PlainType) → pieces_or_none new type_of (Some ps) ≡ cutting_at bits (slice_get table k) new type_of o)
    → (x : ℕ) → Without x o → NotIn x ps
