-- What the laws of the patterns promise.
use Rattle.std.specs.Prelude.{◌≡◌, ℕ, Ok, length, map}
use Rattle.pipeline_text.specs.declared.pass.PassName.{PassName}
use Rattle.plain_tree.specs.Ops.{Op}
use Rattle.conversion_model.specs.Conversion.{Supply}
use Rattle.conversion_model.specs.Renamings.{RenAnswer}
use Rattle.conversion_model.specs.Fresh.{Fresh, SameValue, SameLabel}
use Rattle.conversion_model.specs.Counts.{DefinesOnce, LabelsOnce}
use Rattle.pattern_model.specs.PassTable.{pass_tree}
use Rattle.pattern_model.specs.ScfRows.{scf_set}
use Rattle.pattern_model.specs.ExpandRows.{expand_set}
use Rattle.pattern_model.specs.ArithRows.{arith_set}
use Rattle.pattern_model.specs.CfRows.{cf_set}
use Rattle.pattern_model.specs.MemrefRows.{memref_set}
use Rattle.pattern_model.specs.FuncRows.{func_set}
use Rattle.pattern_model.specs.Tables.{all_sets, names_of}
use Rattle.pattern_model.specs.SetNames.{scf_names, expand_names, arith_names, cf_names, memref_names, func_names}

-- each set has these patterns in this order, and there are 51 in all
pub record TablesHold : Type 0 where
  pub scf : map names_of scf_set ≡ scf_names
  pub expand : map names_of expand_set ≡ expand_names
  pub arith : map names_of arith_set ≡ arith_names
  pub cf : map names_of cf_set ≡ cf_names
  pub memref : map names_of memref_set ≡ memref_names
  pub func : map names_of func_set ≡ func_names
  pub count : length all_sets ≡ 51

-- For any two fresh supplies of new numbers a pass makes the same of a function up to numbers: the same failure, or trees
-- in which old numbers are the same and new ones go together by their places.
abbrev pub SuppliesAgree : Type 0
SuppliesAgree = (name : PassName) (bits : ℕ) (new other : Supply) (f : Op) → Fresh new f → Fresh other f
    → RenAnswer (SameValue new other) (SameLabel new other) (pass_tree name bits new f) (pass_tree name bits other f)

-- what a pass makes of a function defines each number at most once, where the function does and no label stands twice in it
abbrev pub PassesDefineOnce : Type 0
PassesDefineOnce = (name : PassName) (bits : ℕ) (new : Supply) (f g : Op)
    → Fresh new f → DefinesOnce f → LabelsOnce f → pass_tree name bits new f ≡ Ok g → DefinesOnce g
