use Rattle.std.proofs.Common.{◌≡◌, map, drop}
use Rattle.std.specs.List.{list_all}
use Rattle.form_model.specs.Types.{is_llvm}
use Rattle.form_code.proofs.recast.+is_llvm.Given as goal

abbrev pub invariant-all_llvm-loop-field : goal.invariant-all_llvm-loop-field
invariant-all_llvm-loop-field l = list_all (λ field. field) (map is_llvm (drop l.field-index l.fields)) ≡ list_all (λ field. field) (map is_llvm l.fields)
