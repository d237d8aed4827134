-- Edits of trees.
use Rattle.std.specs.Prelude.{◌==◌, ℕ, zero, suc, List, [], set, insert, remove, if◌then◌else◌}
use Rattle.key_model.specs.declared.handle.Handle.{Handle}
use Rattle.flat_model.specs.declared.nodes.NamedAttr.{NamedAttr}
use Rattle.edit_effects.specs.HandleTree.{Values, Front, Op, op_of, Ops, ops_end, next_op, Regions, regions_end, next_region, Blocks, blocks_end, next_block}

-- what an edit does to an operation without its regions, to the arguments and to the operations of the block of a
-- number, and to the blocks of the region of a number. What is below is edited first.
pub record Edit : Type 0 where
  pub front : Front → Front
  pub args : ℕ → Values → Values
  pub ops : ℕ → Ops → Ops
  pub blocks : ℕ → Blocks → Blocks

-- the edit that does nothing, for others to begin with
abbrev pub nothing : Edit
nothing = record { front = λ o. o; args = λ b vs. vs; ops = λ b os. os; blocks = λ r bs. bs }

abbrev mutual
  -- the operation after an edit
  pub op_edited : Edit → Op → Op
  op_edited e (op_of front regions) = op_of (e.front front) (regions_edited e regions)

  pub ops_edited : Edit → Ops → Ops
  ops_edited e ops_end = ops_end
  ops_edited e (next_op o os) = next_op (op_edited e o) (ops_edited e os)

  pub regions_edited : Edit → Regions → Regions
  regions_edited e regions_end = regions_end
  regions_edited e (next_region r bs more) = next_region r (e.blocks r (blocks_edited e bs)) (regions_edited e more)

  pub blocks_edited : Edit → Blocks → Blocks
  blocks_edited e blocks_end = blocks_end
  blocks_edited e (next_block b args os more) = next_block b (e.args b args) (e.ops b (ops_edited e os)) (blocks_edited e more)

-- an operation put in before the one at a place, or at the end
abbrev pub put_in : ℕ → Op → Ops → Ops
put_in zero o os = next_op o os
put_in (suc at) o ops_end = next_op o ops_end
put_in (suc at) o (next_op p os) = next_op p (put_in at o os)

-- the operation at a place taken out
abbrev pub taken_out : ℕ → Ops → Ops
taken_out at ops_end = ops_end
taken_out zero (next_op o os) = os
taken_out (suc at) (next_op o os) = next_op o (taken_out at os)

-- that operand is the value
abbrev pub operand_set : ℕ → ℕ → ℕ → Edit
operand_set op at value = record nothing { front = λ o. if o.op == op then record o { operands = set o.operands at value } else o }

-- the operation stands at that place of the block
abbrev pub op_inserted : ℕ → ℕ → Op → Edit
op_inserted block at o = record nothing { ops = λ b os. if b == block then put_in at o os else os }

-- the operation at that place of the block is gone, with its regions
abbrev pub op_erased : ℕ → ℕ → Edit
op_erased block at = record nothing { ops = λ b os. if b == block then taken_out at os else os }

-- a block put in before the one at a place, or at the end
abbrev pub block_put_in : ℕ → ℕ → Values → Ops → Blocks → Blocks
block_put_in zero b args os bs = next_block b args os bs
block_put_in (suc at) b args os blocks_end = next_block b args os blocks_end
block_put_in (suc at) b args os (next_block c more ps bs) = next_block c more ps (block_put_in at b args os bs)

-- the value stands at that place of the block's arguments
abbrev pub arg_added : ℕ → ℕ → ℕ × Handle → Edit
arg_added block at value = record nothing { args = λ b vs. if b == block then insert vs at value else vs }

-- the argument at that place of the block is gone
abbrev pub arg_removed : ℕ → ℕ → Edit
arg_removed block at = record nothing { args = λ b vs. if b == block then remove vs at else vs }

-- a block of that number, without arguments and operations, stands at that place of the region
abbrev pub block_added : ℕ → ℕ → ℕ → Edit
block_added region at block = record nothing { blocks = λ r bs. if r == region then block_put_in at block [] ops_end bs else bs }

-- the operation has that name and those properties
abbrev pub front_renamed : ℕ → List ℕ → List NamedAttr → Edit
front_renamed op name props = record nothing { front = λ o. if o.op == op then record o { name = name; props = props } else o }
