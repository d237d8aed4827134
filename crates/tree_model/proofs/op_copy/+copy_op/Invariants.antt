use Rattle.std.proofs.Common.{◌≡◌, take}
use Rattle.tree_model.proofs.op_copy.+copy_op.Given as goal

abbrev pub invariant-copy_regions-loop-region : goal.invariant-copy_regions-loop-region
invariant-copy_regions-loop-region l = l.copies ≡ take l.region-index l.regions

abbrev pub invariant-copy_blocks-loop-block : goal.invariant-copy_blocks-loop-block
invariant-copy_blocks-loop-block l = l.copies ≡ take l.block-index l.blocks

abbrev pub invariant-copy_ops-loop-op : goal.invariant-copy_ops-loop-op
invariant-copy_ops-loop-op l = l.copies ≡ take l.op-index l.ops
