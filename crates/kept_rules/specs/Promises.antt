-- What the laws on verified modules promise.
use Rattle.std.specs.Prelude.{◌≡◌, ℕ, List, [], ◌∷◌, Ok, ⊤}
use Rattle.pipeline_text.specs.declared.pass.PassName.{PassName}
use Rattle.pipeline_text.specs.declared.pass.PassName.TheVariants.{ArithExpand, ConvertArithToLlvm, ConvertCfToLlvm, ReconcileUnrealizedCasts}
use Rattle.pipeline_text.specs.declared.pass.PassUse.{PassUse}
use Rattle.pipeline_text.specs.declared.pass.Pipeline.{Pipeline}
use Rattle.pipeline_text.specs.declared.pass.Stage.{Stage}
use Rattle.pipeline_text.specs.declared.pass.Stage.TheVariants.{Whole, Each}
pub use Rattle.fitting_rows.specs.Widths.{IsWidth}
use Rattle.plain_tree.specs.Ops.{Op, PlainModule}
use Rattle.rule_model.specs.Words.{AllOf}
use Rattle.rule_model.specs.Rules.{Verified}
use Rattle.conversion_model.specs.Conversion.{Supply}
use Rattle.conversion_model.specs.Fresh.{Fresh}
use Rattle.pattern_model.specs.PassTable.{pass_tree}
use Rattle.pattern_model.specs.Fold.{folded, width}
use Rattle.fold_model.specs.FreshFolds.{FreshStages}

-- functions in order, each as it was or what the pass makes of it with fresh numbers
pub data Replaced (name : PassName) (bits : ℕ) : List Op → List Op → Type 0 where
  none_replaced : Replaced name bits [] []
  left_so : (f : Op) {fs gs : List Op} → Replaced name bits fs gs → Replaced name bits (f ∷ fs) (f ∷ gs)
  made_so : (new : Supply) (f g : Op) {fs gs : List Op} → Fresh new f → pass_tree name bits new f ≡ Ok g → Replaced name bits fs gs → Replaced name bits (f ∷ fs) (g ∷ gs)

-- a module with other functions
abbrev pub with_funcs : PlainModule → List Op → PlainModule
with_funcs m funcs = record { props = m.props; attrs = m.attrs; funcs = funcs }

-- a verified module with any of its functions replaced by what the pass makes of it is verified
abbrev pub PassKeepsVerified : PassName → Type 0
PassKeepsVerified name = (bits : ℕ) (m : PlainModule) (funcs : List Op) → IsWidth bits → Replaced name bits m.funcs funcs → Verified m → Verified (with_funcs m funcs)

abbrev pub ExpandKeepsVerified : Type 0
ExpandKeepsVerified = PassKeepsVerified ArithExpand

abbrev pub ArithKeepsVerified : Type 0
ArithKeepsVerified = PassKeepsVerified ConvertArithToLlvm

abbrev pub CfKeepsVerified : Type 0
CfKeepsVerified = PassKeepsVerified ConvertCfToLlvm

abbrev pub CastsKeepVerified : Type 0
CastsKeepVerified = PassKeepsVerified ReconcileUnrealizedCasts

-- Pipelines

-- the passes that are spoken of here
abbrev pub IsKept : PassName → Type 0
IsKept ArithExpand = ⊤
IsKept ConvertArithToLlvm = ⊤
IsKept ConvertCfToLlvm = ⊤
IsKept ReconcileUnrealizedCasts = ⊤
IsKept _ = ⊥

abbrev pub KeptStage : Stage → Type 0
KeptStage (Whole u) = IsKept u.pass
KeptStage (Each anchor us) = AllOf (λ (u : PassUse). IsKept u.pass) us

-- the fold of a pipeline of these passes over a verified module is verified, also where it fails
abbrev pub FoldKeepsVerified : Type 0
FoldKeepsVerified = (new : ℕ → ℕ → ℕ → Supply) (p : Pipeline) (m : PlainModule) → IsWidth (width p.stages) → AllOf KeptStage p.stages → FreshStages new (width p.stages) 0 p.stages m.funcs → Verified m
    → Verified (folded new p m).module_behind
