-- Nodes after one write.
use Rattle.std.specs.Prelude.{ℕ, List, [], ◌∷◌, ◌++◌, set}
use Rattle.key_model.specs.declared.handle.Handle.{Handle}
use Rattle.flat_model.specs.declared.nodes.OpNode.{OpNode}
use Rattle.flat_model.specs.Flat.{Flat, no_block, op_at, block_at}

-- a block has these operations
abbrev pub with_ops : Flat → ℕ → List ℕ → Flat
with_ops f block ops = record f { blocks = set f.blocks block (record (block_at f block) { ops = ops }) }

-- an operand is this value
abbrev pub with_operand : Flat → ℕ → ℕ → ℕ → Flat
with_operand f op at value = record f { ops = set f.ops op (record (op_at f op) { operands = set (op_at f op).operands at value }) }

-- an operation more, and the types of its results
abbrev pub with_op : Flat → OpNode → List Handle → Flat
with_op f node types = record f { ops = f.ops ++ node ∷ []; types = f.types ++ types }

-- a block has these arguments
abbrev pub with_args : Flat → ℕ → List ℕ → Flat
with_args f block args = record f { blocks = set f.blocks block (record (block_at f block) { args = args }) }

-- a region has these blocks
abbrev pub with_blocks : Flat → ℕ → List ℕ → Flat
with_blocks f region blocks = record f { regions = set f.regions region blocks }

-- an operation has this node
abbrev pub with_node : Flat → ℕ → OpNode → Flat
with_node f op node = record f { ops = set f.ops op node }

-- a value more, of a type
abbrev pub with_value : Flat → Handle → Flat
with_value f type = record f { types = f.types ++ type ∷ [] }

-- a block more, without arguments and operations
abbrev pub with_block : Flat → Flat
with_block f = record f { blocks = f.blocks ++ no_block ∷ [] }
