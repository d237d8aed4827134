use Rattle.std.proofs.Common.{◌≡◌, drop}
use Rattle.std.specs.List.{list_all}
use Rattle.plain_tree.specs.Ops.{plain_op}
use Rattle.llvm_only.specs.Llvm.{op_llvm}
use Rattle.llvm_only.proofs.telling.funcs_llvm.Given as goal

abbrev pub invariant-loop-func : goal.invariant-loop-func
invariant-loop-func l = list_all (λ f. op_llvm (plain_op f.op)) (drop l.func-index l.funcs) ≡ list_all (λ f. op_llvm (plain_op f.op)) l.funcs
