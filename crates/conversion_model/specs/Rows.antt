-- Rows of patterns: what may replace an operation.
use Rattle.std.specs.Prelude.{ℕ, Bool, List, Option}
use Rattle.plain_tree.specs.Types.{PlainType}
use Rattle.plain_tree.specs.Attrs.{Entries}
use Rattle.plain_tree.specs.Ops.{Op, Values}
use Rattle.conversion_model.specs.Templates.{Template}
use Rattle.conversion_model.specs.Targets.{Shape}

-- the new values and labels of one operation, each by its place
pub record Numbers : Type 0 where
  pub value : ℕ → ℕ
  pub label : ℕ → ℕ

-- what a row that cuts a block gives, in the order of the text
pub data Piece : Type 0 where
  -- a product, with the types of its operands
  Product : Op → List PlainType → Piece
  -- a block opens, with this label and these arguments
  Opens : ℕ → Values → Piece
  -- the operations of a block in front of its first scf.yield or scf.condition, by the places of its region and of itself
  Held : ℕ → ℕ → Piece
  -- a result stands for a value that is there
  Stands : ℕ × PlainType → ℕ → Piece

-- old arguments of a function are given by steps over the new parameters that it takes
pub record Part : Type 0 where
  pub takes : List PlainType
  pub gives : Template

-- what a function becomes: its new name and properties, and for each old argument of its first block the new parameters
-- that it takes and what gives it from them
pub record Frame : Type 0 where
  pub name : List ℕ
  pub props : Entries
  pub attrs : Entries
  pub entry : List Part

-- straight: operations one after another; cutting: the block is cut behind the operation; framing: of a function
pub data Row : Type 0 where
  Straight : (Shape → Option Template) → Row
  Cutting : (Numbers → (ℕ → PlainType) → Op → Option (List Piece)) → Row
  Framing : (Shape → Option Frame) → Row

-- a pattern: the name of the operations that it replaces, the names that it may make, its benefit, whether it takes
-- operands and results in their converted types, and its row where an index has so many bits
pub record Pattern : Type 0 where
  pub root : List ℕ
  pub makes : List (List ℕ)
  pub benefit : ℕ
  pub is_converted : Bool
  pub row : ℕ → Row
