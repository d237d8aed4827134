-- Each pass defines each number at most once.
use Rattle.std.proofs.Common.{◌≡◌, ℕ, ◌≤◌, List, [], ◌∷◌, ◌++◌, Option, Some, None, ap, subst, arith}
use Rattle.std.specs.Prelude.{⊤, Result, Ok, Err}
use Rattle.pipeline_text.specs.declared.pass.PassName.{PassName}
use Rattle.pipeline_text.specs.declared.pass.PassName.TheVariants.{ConvertScfToCf, ArithExpand, ConvertArithToLlvm, ConvertCfToLlvm, ConvertFuncToLlvm, FinalizeMemrefToLlvm, ReconcileUnrealizedCasts, FullConvertToLlvm}
use Rattle.plain_tree.specs.Ops.{Op}
use Rattle.conversion_model.specs.Rows.{Pattern}
use Rattle.conversion_model.specs.Conversion.{Pass, Supply, Unlegalised}
use Rattle.conversion_model.specs.Fresh.{Fresh}
use Rattle.conversion_model.specs.Counts.{DefinesOnce, LabelsOnce, TableOnce, hits, none, op_count}
use Rattle.conversion_model.proofs.OnceStages.{reconciled_total}
use Rattle.conversion_model.proofs.OnceConversion.{conversion_once}
use Rattle.pattern_model.specs.ScfRows.{scf_set}
use Rattle.pattern_model.specs.ExpandRows.{expand_set}
use Rattle.pattern_model.specs.ArithRows.{arith_set}
use Rattle.pattern_model.specs.CfRows.{cf_set}
use Rattle.pattern_model.specs.MemrefRows.{memref_set}
use Rattle.pattern_model.specs.FuncRows.{func_set, func_set_without_cast}
use Rattle.pattern_model.specs.Tables.{all_sets}
use Rattle.pattern_model.specs.PassTable.{pass_of, tree_by}
use Rattle.pattern_model.specs.Promises.{PassesDefineOnce}
use Rattle.pattern_model.proofs.ScfOnce.{if_once, for_once, while_once, switch_once, execute_once}

both_tables : (bits : ℕ) (ps qs : List Pattern) → TableOnce bits ps → TableOnce bits qs → TableOnce bits (ps ++ qs)
both_tables bits [] qs p q = q
both_tables bits (x ∷ ps) qs p q = (p.0, both_tables bits ps qs p.1 q)

scf_once : (bits : ℕ) → TableOnce bits scf_set
scf_once bits = (if_once, (for_once, (while_once, (switch_once, (execute_once, tt)))))

expand_once : (bits : ℕ) → TableOnce bits expand_set
expand_once bits = (tt, (tt, (tt, (tt, (tt, tt)))))

arith_once : (bits : ℕ) → TableOnce bits arith_set
arith_once bits = (
  tt,
  (
    tt,
    (
      tt,
      (
        tt,
        (
          tt,
          (
            tt,
            (
              tt,
              (
                tt,
                (
                  tt,
                  (
                    tt,
                    (
                      tt,
                      (
                        tt,
                        (
                          tt,
                          (tt, (tt, (tt, (tt, (tt, (tt, (tt, (tt, (tt, (tt, (tt, (tt, tt)))))))))))),
                        ),
                      ),
                    ),
                  ),
                ),
              ),
            ),
          ),
        ),
      ),
    ),
  ),
)

cf_once : (bits : ℕ) → TableOnce bits cf_set
cf_once bits = (tt, (tt, (tt, (tt, tt))))

memref_once : (bits : ℕ) → TableOnce bits memref_set
memref_once bits = (tt, (tt, (tt, (tt, (tt, (tt, (tt, (tt, tt))))))))

func_once : (bits : ℕ) → TableOnce bits func_set_without_cast
func_once bits = (tt, (tt, (tt, tt)))

all_func_once : (bits : ℕ) → TableOnce bits func_set
all_func_once bits = (tt, (tt, (tt, (tt, tt))))

all_once : (bits : ℕ) → TableOnce bits all_sets
all_once bits =
    both_tables bits scf_set (expand_set ++ arith_set ++ cf_set ++ memref_set ++ func_set) (scf_once bits)
    (both_tables bits expand_set (arith_set ++ cf_set ++ memref_set ++ func_set) (expand_once bits)
    (both_tables bits arith_set (cf_set ++ memref_set ++ func_set) (arith_once bits)
    (both_tables bits cf_set (memref_set ++ func_set) (cf_once bits)
    (both_tables bits memref_set func_set (memref_once bits) (all_func_once bits)))))

abbrev PassOnce : ℕ → Option Pass → Type 0
PassOnce bits None = ⊤
PassOnce bits (Some p) = TableOnce bits p.table

pass_once : (bits : ℕ) (name : PassName) → PassOnce bits (pass_of name)
pass_once bits ConvertScfToCf = scf_once bits
pass_once bits ArithExpand = expand_once bits
pass_once bits ConvertArithToLlvm = arith_once bits
pass_once bits ConvertCfToLlvm = cf_once bits
pass_once bits ConvertFuncToLlvm = func_once bits
pass_once bits FinalizeMemrefToLlvm = memref_once bits
pass_once bits ReconcileUnrealizedCasts = tt
pass_once bits FullConvertToLlvm = all_once bits

abbrev result_or : Op → Result Op Unlegalised → Op
result_or other (Ok g) = g
result_or other (Err e) = other

tree_once : (p : Option Pass) (bits : ℕ) (new : Supply) (f g : Op) → PassOnce bits p → Fresh new f → DefinesOnce f → LabelsOnce f → tree_by p bits new f ≡ Ok g → DefinesOnce g
tree_once None bits new f g all fresh once labels is v =
    subst (λ h. op_count v h ≤ 1) (ap (result_or f) is) (omega (arith, reconciled_total (hits v) none f, once v))
tree_once (Some p) bits new f g all fresh once labels is v = conversion_once p bits new f g all fresh once labels is v

pub passes_define_once : PassesDefineOnce
passes_define_once name bits new f g fresh once labels is = tree_once (pass_of name) bits new f g (pass_once bits name) fresh once labels is
