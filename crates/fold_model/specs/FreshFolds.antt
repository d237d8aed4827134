-- Folds whose new numbers are fresh.
use Rattle.std.specs.Prelude.{◌≡◌, ℕ, ◌+◌, Bool, true, List, [], ◌∷◌, Ok, ⊤}
use Rattle.std.specs.Str.{bytes_eq}
use Rattle.pipeline_text.specs.declared.pass.PassUse.{PassUse}
use Rattle.pipeline_text.specs.declared.pass.Pipeline.{Pipeline}
use Rattle.pipeline_text.specs.declared.pass.Stage.{Stage}
use Rattle.pipeline_text.specs.declared.pass.Stage.TheVariants.{Whole, Each}
use Rattle.plain_tree.specs.Ops.{Op, PlainModule}
use Rattle.conversion_model.specs.Targets.{name_of}
use Rattle.conversion_model.specs.Conversion.{Supply}
use Rattle.conversion_model.specs.Fresh.{Fresh}
use Rattle.pattern_model.specs.PassTable.{pass_tree}
use Rattle.pattern_model.specs.Fold.{Folded, Stood, anchor_name, folded, is_empty, stage_run, width}

-- the new numbers of each pass on a function are fresh for the function that it is run on
abbrev pub FreshPasses : (ℕ → Supply) → ℕ → ℕ → List PassUse → Op → Type 0
FreshPasses new bits position [] f = ⊤
FreshPasses new bits position (u ∷ us) f = Fresh (new position) f × ((g : Op) → pass_tree u.pass bits (new position) f ≡ Ok g → FreshPasses new bits (position + 1) us g)

-- for each function that is run
abbrev pub FreshFunctions : (ℕ → ℕ → Supply) → ℕ → (Op → Bool) → List PassUse → ℕ → List Op → Type 0
FreshFunctions new bits runs us k [] = ⊤
FreshFunctions new bits runs us k (f ∷ fs) = (runs f ≡ true → FreshPasses (new k) bits 0 us f) × FreshFunctions new bits runs us (k + 1) fs

abbrev pub FreshStage : (ℕ → ℕ → Supply) → ℕ → Stage → List Op → Type 0
FreshStage new bits (Whole u) funcs = FreshFunctions new bits (λ f. true) (u ∷ []) 0 funcs
FreshStage new bits (Each anchor us) funcs = FreshFunctions new bits (λ f. bytes_eq (name_of f) (anchor_name anchor)) us 0 funcs

-- for each stage that is run: behind one with a failure none is
abbrev pub FreshStages : (ℕ → ℕ → ℕ → Supply) → ℕ → ℕ → List Stage → List Op → Type 0
FreshStages new bits n [] funcs = ⊤
FreshStages new bits n (s ∷ ss) funcs =
    let t : Stood = stage_run (new n) bits s funcs in
    FreshStage (new n) bits s funcs × (is_empty t.failures ≡ true → FreshStages new bits (n + 1) ss t.funcs)

-- the fold of a pipeline over a module, with some new numbers that are fresh
pub record IsFold (p : Pipeline) (m : PlainModule) (r : Folded) : Type 0 where
  pub new : ℕ → ℕ → ℕ → Supply
  pub fresh : FreshStages new (width p.stages) 0 p.stages m.funcs
  pub is : folded new p m ≡ r
