-- Rows and conversions of trees that are the same but for numbers: R says which values go together, L which labels.
pub use Rattle.plain_tree.specs.Renamings.{RenAll, none_all, more_all, RenValues, none_values, more_values, RenOp, ren_op, RenOps, ops_ended, ren_more, RenRegions, regions_ended, ren_region, RenBlocks, blocks_ended, ren_block, OneToOne, TypesAgree}
use Rattle.std.specs.Prelude.{ℕ, List, [], ◌∷◌, Option, Some, None, Result, Ok, Err}
use Rattle.plain_tree.specs.Types.{PlainType}
use Rattle.plain_tree.specs.Ops.{Op, Values}
use Rattle.conversion_model.specs.Rows.{Piece, Product, Opens, Held, Stands, Numbers, Row, Straight, Cutting, Framing, Pattern}
use Rattle.conversion_model.specs.Conversion.{Pass, Supply, Unlegalised, conv}

-- Rows

pub record RenNumbers (R L : ℕ → ℕ → Type 0) (a b : Numbers) : Type 0 where
  pub values : (k : ℕ) → R (a.value k) (b.value k)
  pub labels : (k : ℕ) → L (a.label k) (b.label k)

-- pieces in order
pub data RenPieces (R L : ℕ → ℕ → Type 0) : List Piece → List Piece → Type 0 where
  pieces_ended : RenPieces R L [] []
  ren_product : {o p : Op} {types : List PlainType} {xs ys : List Piece} → RenOp R L o p → RenPieces R L xs ys → RenPieces R L (Product o types ∷ xs) (Product p types ∷ ys)
  ren_opens : {l m : ℕ} {vs ws : Values} {xs ys : List Piece} → L l m → RenValues R vs ws → RenPieces R L xs ys → RenPieces R L (Opens l vs ∷ xs) (Opens m ws ∷ ys)
  ren_held : {r b : ℕ} {xs ys : List Piece} → RenPieces R L xs ys → RenPieces R L (Held r b ∷ xs) (Held r b ∷ ys)
  ren_stands : {m n v w : ℕ} {t : PlainType} {xs ys : List Piece} → R m n → R v w → RenPieces R L xs ys → RenPieces R L (Stands (m, t) v ∷ xs) (Stands (n, t) w ∷ ys)

pub data RenCut (R L : ℕ → ℕ → Type 0) : Option (List Piece) → Option (List Piece) → Type 0 where
  no_cut : RenCut R L None None
  ren_cut : {xs ys : List Piece} → RenPieces R L xs ys → RenCut R L (Some xs) (Some ys)

-- what always holds
pub data Anything : Type 1 where
  always : Anything

-- a row that cuts looks at numbers only as at names
abbrev pub RowRenames : Row → Type 1
RowRenames (Cutting row) = (R L : ℕ → ℕ → Type 0) (a b : Numbers) (s t : ℕ → PlainType) (o p : Op)
    → OneToOne R → RenNumbers R L a b → TypesAgree R s t → RenOp R L o p → RenCut R L (row a s o) (row b t p)
RowRenames (Straight row) = Anything
RowRenames (Framing row) = Anything

abbrev pub TableRenames : ℕ → List Pattern → Type 1
TableRenames bits [] = Anything
TableRenames bits (p ∷ ps) = RowRenames (p.row bits) × TableRenames bits ps

-- The conversion

-- new numbers that go together
pub record RenSupply (R L : ℕ → ℕ → Type 0) (a b : Supply) : Type 0 where
  pub rows : (n : ℕ) → RenNumbers R L (a.row n) (b.row n)
  pub values : (n piece k : ℕ) → R (a.value n piece k) (b.value n piece k)
  pub parameters : (k : ℕ) → R (a.parameter k) (b.parameter k)
  pub arguments : (l m : ℕ) → L l m → (k : ℕ) → R (a.argument l k) (b.argument m k)

-- answers that go together: the same failure, or functions that go together
pub data RenAnswer (R L : ℕ → ℕ → Type 0) : Result Op Unlegalised → Result Op Unlegalised → Type 0 where
  same_failure : {e : Unlegalised} → RenAnswer R L (Err e) (Err e)
  ren_function : {f g : Op} → RenOp R L f g → RenAnswer R L (Ok f) (Ok g)

-- The conversion of a renamed function is the renamed conversion, for any new numbers that go together: with the same
-- failure, where it fails.
abbrev pub ConversionRenames : Type 1
ConversionRenames = (R L : ℕ → ℕ → Type 0) (p : Pass) (bits : ℕ) (new other : Supply) (f g : Op)
    → OneToOne R → OneToOne L → TableRenames bits p.table → RenSupply R L new other → RenOp R L f g → RenAnswer R L (conv p bits new f) (conv p bits other g)
