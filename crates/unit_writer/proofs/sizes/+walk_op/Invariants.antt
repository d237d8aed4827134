use Rattle.std.proofs.Common.{◌≡◌, ◌++◌, drop, map}
use Rattle.plain_tree.specs.Ops.{blocks_in, ops_in, plain_op, regions_in}
use Rattle.unit_writer.specs.Pages.{block_plain, region_plain}
use Rattle.unit_writer.specs.Sizes.{blocks_sizes, ops_sizes, regions_sizes}
use Rattle.unit_writer.proofs.sizes.+walk_op.Given as goal

abbrev pub invariant-walk_regions-loop-region : goal.invariant-walk_regions-loop-region
invariant-walk_regions-loop-region l = l.sizes.items ++ regions_sizes (regions_in (map region_plain (drop l.region-index l.regions))) ≡ l.initial.sizes.items ++ regions_sizes (regions_in (map region_plain l.regions))

abbrev pub invariant-walk_blocks-loop-block : goal.invariant-walk_blocks-loop-block
invariant-walk_blocks-loop-block l = l.sizes.items ++ blocks_sizes (blocks_in (map block_plain (drop l.block-index l.blocks))) ≡ l.initial.sizes.items ++ blocks_sizes (blocks_in (map block_plain l.blocks))

abbrev pub invariant-walk_ops-loop-op : goal.invariant-walk_ops-loop-op
invariant-walk_ops-loop-op l = l.sizes.items ++ ops_sizes (ops_in (map plain_op (drop l.op-index l.ops))) ≡ l.initial.sizes.items ++ ops_sizes (ops_in (map plain_op l.ops))
