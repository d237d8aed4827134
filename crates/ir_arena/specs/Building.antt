-- What contracts say of an arena while it is built from a tree.
use Rattle.std.specs.Prelude.{◌≡◌, ℕ, ◌<◌, List, [], Some, length, get_or, nat_eq}
use Rattle.std.specs.HashMap.{get}
use Rattle.flat_model.specs.Flat.{Flat, BlockNode}
use Rattle.flat_model.specs.Growth.{Built}
use Rattle.ir_arena.specs.Arena.{flat_of}
use Rattle.ir_arena.specs.declared.numbering.Numbering.{Numbering}
use Rattle.ir_arena.specs.declared.numbering.Numbers.{Numbers}
use Rattle.ir_arena.specs.declared.fresh.Build.{Build}

-- the nodes so far; none of them is the root yet
abbrev pub nodes_of : Build → Flat
nodes_of b = flat_of b.ops.items b.blocks.items b.regions.items b.types.items 0

-- the place is that of the number, among the numbers in order
pub record Names (n : Numbering) (place number : ℕ) : Type 0 where
  pub looked_up : get nat_eq n.places number ≡ Some place
  pub inside : place < length n.numbers.items
  pub there : get_or n.numbers.items place 0 ≡ number

-- nodes were added, whose operands and successors are places of the tree's numbers
abbrev pub BuiltBy : Numbers → Build → Build → Type 0
BuiltBy n b c = Built (length n.values.numbers.items) (length n.labels.numbers.items) (nodes_of b) (nodes_of c)

-- no nodes
abbrev pub blank_nodes : Flat
blank_nodes = record { ops = []; blocks = []; regions = []; types = []; root = 0 }

-- a block with these arguments and operations
abbrev pub block_of : List ℕ → List ℕ → BlockNode
block_of args ops = record { args = args; ops = ops }
