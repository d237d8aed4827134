-- Edits that take operations out by their numbers, and move operations and blocks.
use Rattle.std.specs.Prelude.{◌==◌, ℕ, zero, suc, [], if◌then◌else◌}
use Rattle.edit_effects.specs.HandleTree.{Op, op_of, Ops, ops_end, next_op, Blocks, blocks_end, next_block}
use Rattle.edit_effects.specs.Effects.{Edit, nothing}

abbrev pub number_of : Op → ℕ
number_of (op_of front regions) = front.op

-- the operations but the one of that number
abbrev pub without : ℕ → Ops → Ops
without op ops_end = ops_end
without op (next_op o os) = if number_of o == op then without op os else next_op o (without op os)

-- the operation is gone, with its regions
abbrev pub op_gone : ℕ → Edit
op_gone op = record nothing { ops = λ b os. without op os }

-- so many operations from the start, and those behind them
abbrev pub ops_before : ℕ → Ops → Ops
ops_before zero os = ops_end
ops_before (suc at) ops_end = ops_end
ops_before (suc at) (next_op o os) = next_op o (ops_before at os)

abbrev pub ops_behind : ℕ → Ops → Ops
ops_behind zero os = os
ops_behind (suc at) ops_end = ops_end
ops_behind (suc at) (next_op o os) = ops_behind at os

-- the block keeps so many operations, and those behind them stand in a new block directly behind it
abbrev pub cut_in : ℕ → ℕ → ℕ → Blocks → Blocks
cut_in block at new blocks_end = blocks_end
cut_in block at new (next_block b args os bs) = if b == block
    then next_block b args (ops_before at os) (next_block new [] (ops_behind at os) (cut_in block at new bs))
    else next_block b args os (cut_in block at new bs)

-- the operations of the block from a place on stand in a new block, without arguments, directly behind it
abbrev pub block_split : ℕ → ℕ → ℕ → Edit
block_split block at new = record nothing { blocks = λ r bs. cut_in block at new bs }

-- blocks in front of others
abbrev pub in_front : Blocks → Blocks → Blocks
in_front blocks_end bs = bs
in_front (next_block b args os more) bs = next_block b args os (in_front more bs)

-- blocks put in directly before the one of that number
abbrev pub put_before : ℕ → Blocks → Blocks → Blocks
put_before before moved blocks_end = blocks_end
put_before before moved (next_block b args os bs) = if b == before then in_front moved (next_block b args os bs) else next_block b args os (put_before before moved bs)

-- the blocks that were the region's stand in order directly before that block; the region has none
abbrev pub region_inlined : ℕ → ℕ → Blocks → Edit
region_inlined region before moved = record nothing { blocks = λ r bs. if r == region then blocks_end else put_before before moved bs }
