-- The names of all operations as one list, and the targets of passes by name.
use Rattle.std.specs.Prelude.{ℕ, not, ◌||◌, List, ◌++◌, Option, Some, None, filter}
use Rattle.conversion_model.specs.Targets.{Target, Unknown}
use Rattle.conversion_model.specs.Conversion.{Pass}
use Rattle.pipeline_text.specs.declared.pass.PassName.{PassName}
use Rattle.pattern_model.specs.OperationNames.{is_among, builtin_names, func_names, arith_names, cf_names, scf_names, memref_names, llvm_names}
use Rattle.pattern_model.specs.PassTable.{pass_of}

abbrev pub known_names : List (List ℕ)
known_names = builtin_names ++ func_names ++ arith_names ++ cf_names ++ scf_names ++ memref_names ++ llvm_names

-- those of these names that are in neither list
abbrev pub others : List (List ℕ) → List (List ℕ) → List (List ℕ) → List (List ℕ)
others illegal dynamic names = filter (λ n. not (is_among illegal n || is_among dynamic n)) names

abbrev pub target_or : Option Pass → Target
target_or None = λ name. Unknown
target_or (Some p) = p.target

-- the target of a pass; one without a conversion knows no name
abbrev pub pass_target : PassName → Target
pass_target name = target_or (pass_of name)
