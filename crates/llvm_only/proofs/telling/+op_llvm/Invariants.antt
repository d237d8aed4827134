use Rattle.std.proofs.Common.{◌≡◌, drop}
use Rattle.std.specs.List.{list_all}
use Rattle.plain_tree.specs.Ops.{plain_op}
use Rattle.llvm_only.specs.Llvm.{op_llvm}
use Rattle.llvm_only.specs.Trees.{block_llvm, region_llvm}
use Rattle.llvm_only.proofs.telling.+op_llvm.Given as goal

abbrev pub invariant-regions_llvm-loop-region : goal.invariant-regions_llvm-loop-region
invariant-regions_llvm-loop-region l = list_all region_llvm (drop l.region-index l.regions) ≡ list_all region_llvm l.regions

abbrev pub invariant-blocks_llvm-loop-block : goal.invariant-blocks_llvm-loop-block
invariant-blocks_llvm-loop-block l = list_all block_llvm (drop l.block-index l.blocks) ≡ list_all block_llvm l.blocks

abbrev pub invariant-ops_llvm-loop-op : goal.invariant-ops_llvm-loop-op
invariant-ops_llvm-loop-op l = list_all (λ o. op_llvm (plain_op o)) (drop l.op-index l.ops) ≡ list_all (λ o. op_llvm (plain_op o)) l.ops
