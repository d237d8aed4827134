-- The forms of operations: operations of two dialects that mean the same have one form.
use Rattle.std.specs.Prelude.{ℕ, List, Option, ℤ}
use Rattle.operation_model.specs.Pures.{Pure}
use Rattle.operation_model.specs.Calling.{Shapes, Packing}

-- a new memref: the width of its sizes, its sizes where they are fixed, the width of its elements and its alignment, 1 where none is asked for
pub record Layout : Type 0 where
  pub bits : ℕ
  pub sizes : List (Option ℕ)
  pub element : ℕ
  pub alignment : ℕ

-- A form. Widths are numbers of bits.
pub data Form : Type 0 where
  -- an operation that only computes
  Computes : Pure → Form
  -- a branch to its successor
  Branch : Form
  -- a branch to the first or the second of two successors, with so many operands for each
  BranchOn : ℕ → ℕ → Form
  -- a call: the name, the arguments, the results
  Call : List ℕ → Shapes → Packing → Form
  -- a return, with its operands handed over so
  Return : Packing → Form
  -- a load and a store of an integer of a width by a pointer
  Load : ℕ → Form
  Store : ℕ → Form
  -- calls of `malloc`, `aligned_alloc` and `free`
  Allocate : Form
  AllocateAligned : Form
  Free : Form
  -- a new memref, and the end of one
  NewMemref : Layout → Form
  EndMemref : Form
  -- a load and a store of an element: the width of indices, that of the element
  LoadElement : ℕ → ℕ → Form
  StoreElement : ℕ → ℕ → Form
  -- the operations with regions. A loop and a switch have the width of their integers.
  If : Form
  For : ℕ → Form
  While : Form
  Switch : ℕ → List ℤ → Form
  Execute : Form
  -- their ends
  Yield : Form
  Condition : Form
  -- no meaning
  Unknown : Form
