-- What the laws of passes promise.
use Rattle.std.specs.Prelude.{◌≡◌, ◌⊎◌, ℕ, List, [], ◌∷◌, Ok}
use Rattle.pipeline_text.specs.declared.pass.PassName.{PassName}
use Rattle.plain_tree.specs.Ops.{Op, PlainModule}
use Rattle.conversion_model.specs.Targets.{Partial}
use Rattle.conversion_model.specs.Conversion.{Pass, Supply, conv}
use Rattle.conversion_model.specs.Reconciled.{unused_left_out}
use Rattle.conversion_model.specs.Fresh.{Fresh}
use Rattle.pattern_model.specs.PassTable.{pass_tree}
use Rattle.rule_model.specs.Rules.{Verified}
use Rattle.sound_model.specs.Soundness.{RowsSound}
use Rattle.conversion_laws.specs.PlainRows.{AllOf, KnowsNoCopy, PatternPlain, StraightTable}
use Rattle.sound_model.specs.Agreement.{AgreesS}

-- functions of which each stays, or is what the pass makes of it, with any new numbers that are fresh
pub data Passed (pass : PassName) (bits : ℕ) : List Op → List Op → Type 0 where
  no_functions : Passed pass bits [] []
  stays : {f : Op} {fs gs : List Op} → Passed pass bits fs gs → Passed pass bits (f ∷ fs) (f ∷ gs)
  passes : {f g : Op} {fs gs : List Op} (new : Supply) → Fresh new f → pass_tree pass bits new f ≡ Ok g → Passed pass bits fs gs → Passed pass bits (f ∷ fs) (g ∷ gs)

-- a module with these functions
abbrev pub with_functions : PlainModule → List Op → PlainModule
with_functions m funcs = record { props = m.props; attrs = m.attrs; funcs = funcs }

-- functions of which each stays, or is its conversion by a pass of any table, with any new numbers that are fresh
pub data Converted (p : Pass) (bits : ℕ) : List Op → List Op → Type 0 where
  none_converted : Converted p bits [] []
  left : {f : Op} {fs gs : List Op} → Converted p bits fs gs → Converted p bits (f ∷ fs) (f ∷ gs)
  converts : {f g : Op} {fs gs : List Op} (new : Supply) → Fresh new f → conv p bits new f ≡ Ok g → Converted p bits fs gs → Converted p bits (f ∷ fs) (g ∷ gs)

-- For any table of sound straight rows, any target and any width of an index: a verified module and the one with any of its functions
-- converted agree. Each row leaves no copy, the target knows none, and the mode is partial: then nothing is left out or reconciled.
abbrev pub ConversionsKeep : Type 0
ConversionsKeep = (p : Pass) (bits : ℕ) → p.mode ≡ Partial → StraightTable bits p.table → RowsSound bits p.table → AllOf (PatternPlain bits) p.table → KnowsNoCopy p.target
    → (m : PlainModule) (funcs : List Op) → Verified m → Converted p bits m.funcs funcs → AgreesS bits m (with_functions m funcs)

-- A pass keeps the meaning where an index has 32 bits and where it has 64: a verified module and the one with any of its functions
-- replaced by the pass's tree agree.
abbrev pub KeepsMeaning : PassName → Type 0
KeepsMeaning pass = (bits : ℕ) → (bits ≡ 32) ⊎ (bits ≡ 64) → (m : PlainModule) (funcs : List Op) → Verified m → Passed pass bits m.funcs funcs → AgreesS bits m (with_functions m funcs)

-- functions of which each stays, or has lost casts without uses in so many rounds at most
pub data UnusedLeftOut : List Op → List Op → Type 0 where
  none_left : UnusedLeftOut [] []
  as_it_is : {f : Op} {fs gs : List Op} → UnusedLeftOut fs gs → UnusedLeftOut (f ∷ fs) (f ∷ gs)
  without_casts : {f : Op} {fs gs : List Op} (room : ℕ) → UnusedLeftOut fs gs → UnusedLeftOut (f ∷ fs) (unused_left_out room f ∷ gs)

-- casts without uses may be left out of any functions of a verified module, whatever their numbers of operands and results
abbrev pub UnusedCastsKeep : Type 0
UnusedCastsKeep = (bits : ℕ) (m : PlainModule) (funcs : List Op) → Verified m → UnusedLeftOut m.funcs funcs → AgreesS bits m (with_functions m funcs)
