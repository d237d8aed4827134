use Rattle.std.proofs.Common.{◌≡◌, ◌++◌, map, take}
use Rattle.std.specs.Prelude.{flat_map}
use Rattle.plain_tree.specs.Ops.{plain_op}
use Rattle.tree_walk.specs.Walks.{block_list, block_plain, op_list, plain_ops, region_list, region_plain}
use Rattle.tree_walk.proofs.walk.+walk_op.Given as goal

abbrev pub invariant-walk_regions-loop-region : goal.invariant-walk_regions-loop-region
invariant-walk_regions-loop-region l = plain_ops l.list.items ≡ plain_ops l.initial.list.items ++ flat_map region_list (map region_plain (take l.region-index l.regions))

abbrev pub invariant-walk_blocks-loop-block : goal.invariant-walk_blocks-loop-block
invariant-walk_blocks-loop-block l = plain_ops l.list.items ≡ plain_ops l.initial.list.items ++ flat_map block_list (map block_plain (take l.block-index l.blocks))

abbrev pub invariant-walk_ops-loop-op : goal.invariant-walk_ops-loop-op
invariant-walk_ops-loop-op l = plain_ops l.list.items ≡ plain_ops l.initial.list.items ++ flat_map op_list (map plain_op (take l.op-index l.ops))
