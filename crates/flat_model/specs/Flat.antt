-- A function as lists of nodes.
use Rattle.std.specs.Prelude.{ℕ, ◌<◌, List, [], ◌∷◌, length, get_or}
use Rattle.std.specs.List.{All}
use Rattle.key_model.specs.declared.handle.Handle.{Handle}
use Rattle.flat_model.specs.declared.nodes.OpNode.{OpNode}

-- a block: its arguments and its operations, in order
pub record BlockNode : Type 0 where
  pub args : List ℕ
  pub ops : List ℕ

-- a function: its operations, its blocks, the blocks of each region, the type of each value, and the operation that
-- holds all others. A number names what stands at that place.
pub record Flat : Type 0 where
  pub ops : List OpNode
  pub blocks : List BlockNode
  pub regions : List (List ℕ)
  pub types : List Handle
  pub root : ℕ

-- what stands nowhere is blank
abbrev pub no_op : OpNode
no_op = record { name = []; results = []; operands = []; props = []; attrs = []; regions = []; successors = [] }

abbrev pub no_block : BlockNode
no_block = record { args = []; ops = [] }

abbrev pub no_type : Handle
no_type = record { shard = 0; place = 0 }

abbrev pub op_at : Flat → ℕ → OpNode
op_at f op = get_or f.ops op no_op

abbrev pub block_at : Flat → ℕ → BlockNode
block_at f block = get_or f.blocks block no_block

-- the blocks of a region
abbrev pub blocks_at : Flat → ℕ → List ℕ
blocks_at f region = get_or f.regions region []

-- the type of a value
abbrev pub type_at : Flat → ℕ → Handle
type_at f value = get_or f.types value no_type

-- each number of the list is below the bound
abbrev pub AllBelow : ℕ → List ℕ → Type 0
AllBelow bound numbers = All (λ n. n < bound) numbers

-- the numbers in a node name something, where there are so many values and blocks
pub record IsOpWithin (values blocks : ℕ) (f : Flat) (node : OpNode) : Type 0 where
  pub results : AllBelow (length f.types) node.results
  pub operands : AllBelow values node.operands
  pub regions : AllBelow (length f.regions) node.regions
  pub successors : AllBelow blocks node.successors

pub record IsBlockWithin (f : Flat) (node : BlockNode) : Type 0 where
  pub args : AllBelow (length f.types) node.args
  pub ops : AllBelow (length f.ops) node.ops

-- each number in each node names something, where there are so many values and blocks
pub record IsWithin (values blocks : ℕ) (f : Flat) : Type 0 where
  pub op : (i : ℕ) → i < length f.ops → IsOpWithin values blocks f (op_at f i)
  pub block : (b : ℕ) → b < length f.blocks → IsBlockWithin f (block_at f b)
  pub region : (r : ℕ) → r < length f.regions → AllBelow (length f.blocks) (blocks_at f r)

-- each number in the function names something in it
pub record IsClosed (f : Flat) : Type 0 where
  pub within : IsWithin (length f.types) (length f.blocks) f
  pub root : f.root < length f.ops
