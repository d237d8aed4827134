use Rattle.std.proofs.Common.{◌≡◌, [], drop, map}
use Rattle.plain_tree.specs.Ops.{blocks_in, ops_in, plain_op, regions_in}
use Rattle.plain_tree.specs.Values.{blocks_values, ops_values, regions_values}
use Rattle.value_types.specs.Trees.{plain_block, plain_region}
use Rattle.value_types.specs.Views.{types_in, with_types}
use Rattle.value_types.proofs.table.+note_op.Given as goal

abbrev pub invariant-note_regions-loop-region : goal.invariant-note_regions-loop-region
invariant-note_regions-loop-region l =
    with_types (types_in l.types) (regions_values (regions_in (map plain_region (drop l.region-index l.regions))) [])
    ≡ with_types (types_in l.initial.types) (regions_values (regions_in (map plain_region l.regions)) [])

abbrev pub invariant-note_blocks-loop-block : goal.invariant-note_blocks-loop-block
invariant-note_blocks-loop-block l =
    with_types (types_in l.types) (blocks_values (blocks_in (map plain_block (drop l.block-index l.blocks))) [])
    ≡ with_types (types_in l.initial.types) (blocks_values (blocks_in (map plain_block l.blocks)) [])

abbrev pub invariant-note_ops-loop-op : goal.invariant-note_ops-loop-op
invariant-note_ops-loop-op l =
    with_types (types_in l.types) (ops_values (ops_in (map plain_op (drop l.op-index l.ops))) [])
    ≡ with_types (types_in l.initial.types) (ops_values (ops_in (map plain_op l.ops)) [])
