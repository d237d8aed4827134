-- For any two fresh supplies a pass makes the same of a function, up to numbers.
use Rattle.std.proofs.Common.{ℕ, List, [], ◌∷◌, ◌++◌, Option, Some, None}
use Rattle.pipeline_text.specs.declared.pass.PassName.{PassName}
use Rattle.pipeline_text.specs.declared.pass.PassName.TheVariants.{ConvertScfToCf, ArithExpand, ConvertArithToLlvm, ConvertCfToLlvm, ConvertFuncToLlvm, FinalizeMemrefToLlvm, ReconcileUnrealizedCasts, FullConvertToLlvm}
use Rattle.plain_tree.specs.Ops.{Op}
use Rattle.conversion_model.specs.Rows.{Pattern}
use Rattle.conversion_model.specs.Renamings.{Anything, always, OneToOne, TableRenames, RenOp, RenSupply, RenAnswer, ren_function}
use Rattle.conversion_model.specs.Fresh.{SameValue, SameLabel}
use Rattle.conversion_model.specs.Conversion.{Pass, Supply}
use Rattle.conversion_model.proofs.RenamedConversion.{conversion_renames}
use Rattle.conversion_model.proofs.RenamedReconcile.{reconciled_ren}
use Rattle.conversion_model.proofs.FreshLaws.{labels_one, new_ones, old_function, values_one}
use Rattle.pattern_model.specs.ScfRows.{scf_set}
use Rattle.pattern_model.specs.ExpandRows.{expand_set}
use Rattle.pattern_model.specs.ArithRows.{arith_set}
use Rattle.pattern_model.specs.CfRows.{cf_set}
use Rattle.pattern_model.specs.MemrefRows.{memref_set}
use Rattle.pattern_model.specs.FuncRows.{func_set, func_set_without_cast}
use Rattle.pattern_model.specs.Tables.{all_sets}
use Rattle.pattern_model.specs.PassTable.{pass_of, pass_tree, tree_by}
use Rattle.pattern_model.specs.Promises.{SuppliesAgree}
use Rattle.pattern_model.proofs.ScfRenames.{if_renames, for_renames, while_renames, switch_renames, execute_renames}

both_tables : (bits : ℕ) (ps qs : List Pattern) → TableRenames bits ps → TableRenames bits qs → TableRenames bits (ps ++ qs)
both_tables bits [] qs p q = q
both_tables bits (x ∷ ps) qs p q = (p.0, both_tables bits ps qs p.1 q)

scf_renames : (bits : ℕ) → TableRenames bits scf_set
scf_renames bits = (if_renames, (for_renames, (while_renames, (switch_renames, (execute_renames, always)))))

expand_renames : (bits : ℕ) → TableRenames bits expand_set
expand_renames bits = (always, (always, (always, (always, (always, always)))))

arith_renames : (bits : ℕ) → TableRenames bits arith_set
arith_renames bits = (
  always,
  (
    always,
    (
      always,
      (
        always,
        (
          always,
          (
            always,
            (
              always,
              (
                always,
                (
                  always,
                  (
                    always,
                    (
                      always,
                      (
                        always,
                        (
                          always,
                          (always, (always, (always, (always, (always, (always, (always, (always, (always, (always, (always, (always, always)))))))))))),
                        ),
                      ),
                    ),
                  ),
                ),
              ),
            ),
          ),
        ),
      ),
    ),
  ),
)

cf_renames : (bits : ℕ) → TableRenames bits cf_set
cf_renames bits = (always, (always, (always, (always, always))))

memref_renames : (bits : ℕ) → TableRenames bits memref_set
memref_renames bits = (always, (always, (always, (always, (always, (always, (always, (always, always))))))))

func_renames : (bits : ℕ) → TableRenames bits func_set_without_cast
func_renames bits = (always, (always, (always, always)))

all_func_renames : (bits : ℕ) → TableRenames bits func_set
all_func_renames bits = (always, (always, (always, (always, always))))

all_renames : (bits : ℕ) → TableRenames bits all_sets
all_renames bits =
    both_tables bits scf_set (expand_set ++ arith_set ++ cf_set ++ memref_set ++ func_set) (scf_renames bits)
    (both_tables bits expand_set (arith_set ++ cf_set ++ memref_set ++ func_set) (expand_renames bits)
    (both_tables bits arith_set (cf_set ++ memref_set ++ func_set) (arith_renames bits)
    (both_tables bits cf_set (memref_set ++ func_set) (cf_renames bits)
    (both_tables bits memref_set func_set (memref_renames bits) (all_func_renames bits)))))

abbrev PassRenames : ℕ → Option Pass → Type 1
PassRenames bits None = Anything
PassRenames bits (Some p) = TableRenames bits p.table

pass_renames : (bits : ℕ) (name : PassName) → PassRenames bits (pass_of name)
pass_renames bits ConvertScfToCf = scf_renames bits
pass_renames bits ArithExpand = expand_renames bits
pass_renames bits ConvertArithToLlvm = arith_renames bits
pass_renames bits ConvertCfToLlvm = cf_renames bits
pass_renames bits ConvertFuncToLlvm = func_renames bits
pass_renames bits FinalizeMemrefToLlvm = memref_renames bits
pass_renames bits ReconcileUnrealizedCasts = always
pass_renames bits FullConvertToLlvm = all_renames bits

tree_renames : {R L : ℕ → ℕ → Type 0} {f g : Op} (p : Option Pass) (bits : ℕ) (new other : Supply) → OneToOne R → OneToOne L → PassRenames bits p → RenSupply R L new other → RenOp R L f g → RenAnswer R L (tree_by p bits new f) (tree_by p bits other g)
tree_renames None bits new other one labels all supply r = ren_function (reconciled_ren one r)
tree_renames {R = R} {L = L} {f = f} {g = g} (Some p) bits new other one labels all supply r = conversion_renames R L p bits new other f g one labels all supply r

-- what a pass makes of a renamed function is what it makes of the function, renamed
pub pass_tree_renames : (R L : ℕ → ℕ → Type 0) (name : PassName) (bits : ℕ) (new other : Supply) (f g : Op) → OneToOne R → OneToOne L → RenSupply R L new other → RenOp R L f g → RenAnswer R L (pass_tree name bits new f) (pass_tree name bits other g)
pass_tree_renames R L name bits new other f g one labels supply r = tree_renames (pass_of name) bits new other one labels (pass_renames bits name) supply r

pub supplies_agree : SuppliesAgree
supplies_agree name bits new other f here there =
    pass_tree_renames (SameValue new other) (SameLabel new other) name bits new other f f (values_one new other f here there) (labels_one new other f here there) (new_ones new other) (old_function new other f here there)
