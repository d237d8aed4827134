use Rattle.std.proofs.Common.{◌≡◌, ◌++◌, drop, map}
use Rattle.plain_tree.specs.Ops.{blocks_in, ops_in, plain_op, regions_in}
use Rattle.rule_model.specs.Chains.{blocks_operands, ops_operands, regions_operands}
use Rattle.value_types.specs.Trees.{plain_block, plain_region}
use Rattle.first_places.specs.Tables.{table_in}
use Rattle.own_uses.specs.Flat.{makers_of}
use Rattle.own_uses.proofs.graph.+collect_op.Given as goal

abbrev pub invariant-collect_regions-loop-region : goal.invariant-collect_regions-loop-region
invariant-collect_regions-loop-region l =
    l.row.items ++ makers_of (table_in l.makers) (regions_operands (regions_in (map plain_region (drop l.region-index l.regions))))
    ≡ l.initial.row.items ++ makers_of (table_in l.makers) (regions_operands (regions_in (map plain_region l.regions)))

abbrev pub invariant-collect_blocks-loop-block : goal.invariant-collect_blocks-loop-block
invariant-collect_blocks-loop-block l =
    l.row.items ++ makers_of (table_in l.makers) (blocks_operands (blocks_in (map plain_block (drop l.block-index l.blocks))))
    ≡ l.initial.row.items ++ makers_of (table_in l.makers) (blocks_operands (blocks_in (map plain_block l.blocks)))

abbrev pub invariant-collect_ops-loop-op : goal.invariant-collect_ops-loop-op
invariant-collect_ops-loop-op l =
    l.row.items ++ makers_of (table_in l.makers) (ops_operands (ops_in (map plain_op (drop l.op-index l.ops))))
    ≡ l.initial.row.items ++ makers_of (table_in l.makers) (ops_operands (ops_in (map plain_op l.ops)))
