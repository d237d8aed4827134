use Rattle.std.proofs.Common.{◌≡◌, ◌++◌, drop, map}
use Rattle.plain_tree.specs.Ops.{blocks_in, ops_in, plain_op, regions_in}
use Rattle.value_types.specs.Trees.{plain_block, plain_region}
use Rattle.ir_verifier.specs.Numbering.{blocks_numbers, ops_numbers, regions_numbers}
use Rattle.ir_verifier.proofs.numbering.+values.Given as goal

abbrev pub invariant-values_of_regions-loop-region : goal.invariant-values_of_regions-loop-region
invariant-values_of_regions-loop-region l =
    l.found.items ++ regions_numbers (regions_in (map plain_region (drop l.region-index l.regions)))
    ≡ l.initial.found.items ++ regions_numbers (regions_in (map plain_region l.regions))

abbrev pub invariant-values_of_blocks-loop-block : goal.invariant-values_of_blocks-loop-block
invariant-values_of_blocks-loop-block l =
    l.found.items ++ blocks_numbers (blocks_in (map plain_block (drop l.block-index l.blocks)))
    ≡ l.initial.found.items ++ blocks_numbers (blocks_in (map plain_block l.blocks))

abbrev pub invariant-values_of_ops-loop-op : goal.invariant-values_of_ops-loop-op
invariant-values_of_ops-loop-op l =
    l.found.items ++ ops_numbers (ops_in (map plain_op (drop l.op-index l.ops)))
    ≡ l.initial.found.items ++ ops_numbers (ops_in (map plain_op l.ops))
