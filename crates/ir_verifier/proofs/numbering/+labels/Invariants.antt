use Rattle.std.proofs.Common.{◌≡◌, ◌++◌, drop, map}
use Rattle.plain_tree.specs.Ops.{blocks_in, ops_in, plain_op, regions_in}
use Rattle.value_types.specs.Trees.{plain_block, plain_region}
use Rattle.rule_model.specs.Formed.{blocks_labels, ops_labels, regions_labels}
use Rattle.ir_verifier.proofs.numbering.+labels.Given as goal

abbrev pub invariant-labels_of_regions-loop-region : goal.invariant-labels_of_regions-loop-region
invariant-labels_of_regions-loop-region l =
    l.found.items ++ regions_labels (regions_in (map plain_region (drop l.region-index l.regions)))
    ≡ l.initial.found.items ++ regions_labels (regions_in (map plain_region l.regions))

abbrev pub invariant-labels_of_blocks-loop-block : goal.invariant-labels_of_blocks-loop-block
invariant-labels_of_blocks-loop-block l =
    l.found.items ++ blocks_labels (blocks_in (map plain_block (drop l.block-index l.blocks)))
    ≡ l.initial.found.items ++ blocks_labels (blocks_in (map plain_block l.blocks))

abbrev pub invariant-labels_of_ops-loop-op : goal.invariant-labels_of_ops-loop-op
invariant-labels_of_ops-loop-op l =
    l.found.items ++ ops_labels (ops_in (map plain_op (drop l.op-index l.ops)))
    ≡ l.initial.found.items ++ ops_labels (ops_in (map plain_op l.ops))
