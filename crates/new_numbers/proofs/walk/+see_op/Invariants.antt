use Rattle.std.proofs.Common.{◌≡◌, drop, map}
use Rattle.plain_tree.specs.Ops.{plain_op, ops_in, blocks_in, regions_in}
use Rattle.new_numbers.specs.Tops.{block_plain, over_blocks, over_ops, over_regions, region_plain}
use Rattle.new_numbers.proofs.walk.+see_op.Given as goal

abbrev pub invariant-see_regions-loop-region : goal.invariant-see_regions-loop-region
invariant-see_regions-loop-region l = over_regions (regions_in (map region_plain (drop l.region-index l.regions))) l.tops ≡ over_regions (regions_in (map region_plain l.regions)) l.initial.tops

abbrev pub invariant-see_blocks-loop-block : goal.invariant-see_blocks-loop-block
invariant-see_blocks-loop-block l = over_blocks (blocks_in (map block_plain (drop l.block-index l.blocks))) l.tops ≡ over_blocks (blocks_in (map block_plain l.blocks)) l.initial.tops

abbrev pub invariant-see_ops-loop-op : goal.invariant-see_ops-loop-op
invariant-see_ops-loop-op l = over_ops (ops_in (map plain_op (drop l.op-index l.ops))) l.tops ≡ over_ops (ops_in (map plain_op l.ops)) l.initial.tops
