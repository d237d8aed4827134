-- The passes as data, and what a pass makes of one function.
use Rattle.std.specs.Prelude.{ℕ, ◌+◌, Bool, true, false, List, [], ◌∷◌, Option, Some, None, Result, Ok, if◌then◌else◌, codes}
use Rattle.pipeline_text.specs.declared.pass.PassName.{PassName}
use Rattle.pipeline_text.specs.declared.pass.PassName.TheVariants.{ConvertScfToCf, ArithExpand, ConvertArithToLlvm, ConvertCfToLlvm, ConvertFuncToLlvm, FinalizeMemrefToLlvm, ReconcileUnrealizedCasts, FullConvertToLlvm}
use Rattle.plain_tree.specs.Ops.{Op}
use Rattle.conversion_model.specs.Targets.{Target, Legal, Dynamic, Illegal, Unknown, TypesOwn, Partial, Full}
use Rattle.conversion_model.specs.Rows.{Pattern}
use Rattle.conversion_model.specs.Chosen.{has_root}
use Rattle.conversion_model.specs.Reconciled.{reconciled}
use Rattle.conversion_model.specs.Conversion.{Pass, Supply, Unlegalised, conv}
use Rattle.pattern_model.specs.ScfRows.{scf_set}
use Rattle.pattern_model.specs.ExpandRows.{expand_set}
use Rattle.pattern_model.specs.ArithRows.{arith_set}
use Rattle.pattern_model.specs.CfRows.{cf_set}
use Rattle.pattern_model.specs.MemrefRows.{memref_set}
use Rattle.pattern_model.specs.FuncRows.{func_set_without_cast}
use Rattle.pattern_model.specs.Tables.{all_sets}
use Rattle.pattern_model.specs.OperationNames.{is_among, is_known, scf_roots, arith_names, cf_names, func_names, memref_names, llvm_names, llvm_branches}

-- of a partial pass: every name that isn't illegal or dynamic is legal if it is known
abbrev pub partial_target : List (List ℕ) → List (List ℕ) → Target
partial_target illegal dynamic name =
    if is_among illegal name then Illegal else if is_among dynamic name then Dynamic TypesOwn else if is_known name then Legal else Unknown

-- of the full pass: llvm names are legal or dynamic, all others unknown
abbrev pub full_target : Target
full_target name = if is_among llvm_branches name then Dynamic TypesOwn else if is_among llvm_names name then Legal else Unknown

abbrev pub partial_pass : List Pattern → List (List ℕ) → List (List ℕ) → Bool → Pass
partial_pass table illegal dynamic blocks = record { table = table; target = partial_target illegal dynamic; mode = Partial; blocks = blocks }

abbrev pub expand_roots : List (List ℕ)
expand_roots = codes "arith.ceildivsi" ∷ codes "arith.ceildivui" ∷ codes "arith.floordivsi" ∷ codes "arith.maxsi" ∷ codes "arith.minsi" ∷ []

-- the patterns, the target and the mode of each pass; reconcile-unrealized-casts has no conversion
abbrev pub pass_of : PassName → Option Pass
pass_of ConvertScfToCf = Some (partial_pass scf_set scf_roots [] false)
pass_of ArithExpand = Some (partial_pass expand_set expand_roots [] false)
pass_of ConvertArithToLlvm = Some (partial_pass arith_set arith_names [] false)
pass_of ConvertCfToLlvm = Some (partial_pass cf_set cf_names llvm_branches true)
pass_of ConvertFuncToLlvm = Some (partial_pass func_set_without_cast func_names [] false)
pass_of FinalizeMemrefToLlvm = Some (partial_pass memref_set memref_names [] false)
pass_of ReconcileUnrealizedCasts = None
pass_of FullConvertToLlvm = Some (record { table = all_sets; target = full_target; mode = Full; blocks = true })

abbrev pub tree_by : Option Pass → ℕ → Supply → Op → Result Op Unlegalised
tree_by (Some p) bits new f = conv p bits new f
tree_by None bits new f = Ok (reconciled f)

-- what a pass makes of a function, where an index has so many bits: its conversion, or the function reconciled
abbrev pub pass_tree : PassName → ℕ → Supply → Op → Result Op Unlegalised
pass_tree name bits new f = tree_by (pass_of name) bits new f

-- how many patterns of a table have the root, whether or not their rows are defined
abbrev pub root_count : List ℕ → List Pattern → ℕ
root_count name [] = 0
root_count name (p ∷ ps) = if has_root name p then root_count name ps + 1 else root_count name ps

abbrev pub patterns_of : Option Pass → List Pattern
patterns_of None = []
patterns_of (Some p) = p.table

abbrev pub patterns_with : PassName → List ℕ → ℕ
patterns_with pass name = root_count name (patterns_of (pass_of pass))
