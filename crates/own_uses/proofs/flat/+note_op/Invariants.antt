use Rattle.std.proofs.Common.{◌≡◌, [], drop, map}
use Rattle.plain_tree.specs.Ops.{blocks_in, ops_in, plain_op, regions_in}
use Rattle.value_types.specs.Trees.{plain_block, plain_region}
use Rattle.own_uses.specs.Flat.{blocks_all, grown, ops_all, regions_all}
use Rattle.own_uses.specs.Views.{plain_ops}
use Rattle.own_uses.proofs.flat.+note_op.Given as goal

abbrev pub invariant-note_regions-loop-region : goal.invariant-note_regions-loop-region
invariant-note_regions-loop-region l =
    grown (plain_ops l.all.items) (regions_all (regions_in (map plain_region (drop l.region-index l.regions))) [])
    ≡ grown (plain_ops l.initial.all.items) (regions_all (regions_in (map plain_region l.regions)) [])

abbrev pub invariant-note_blocks-loop-block : goal.invariant-note_blocks-loop-block
invariant-note_blocks-loop-block l =
    grown (plain_ops l.all.items) (blocks_all (blocks_in (map plain_block (drop l.block-index l.blocks))) [])
    ≡ grown (plain_ops l.initial.all.items) (blocks_all (blocks_in (map plain_block l.blocks)) [])

abbrev pub invariant-note_ops-loop-op : goal.invariant-note_ops-loop-op
invariant-note_ops-loop-op l =
    grown (plain_ops l.all.items) (ops_all (ops_in (map plain_op (drop l.op-index l.ops))) [])
    ≡ grown (plain_ops l.initial.all.items) (ops_all (ops_in (map plain_op l.ops)) [])
