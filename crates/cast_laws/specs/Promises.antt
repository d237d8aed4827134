-- What the laws of reconciliation promise.
use Rattle.std.specs.Prelude.{◌≡◌, ℕ, true, List, [], ◌∷◌}
use Rattle.plain_tree.specs.Ops.{Op, PlainModule}
use Rattle.conversion_model.specs.Reconciled.{Cast, casts_in, pairs_left_out, undoes, without_pair}
use Rattle.conversion_model.specs.Uses.{operations, types_of}
use Rattle.rule_model.specs.Words.{AnyOf}
use Rattle.rule_model.specs.Rules.{Verified}
use Rattle.sound_model.specs.Agreement.{AgreesS}
use Rattle.pass_laws.specs.Promises.{with_functions}

-- a cast of a function, of one operand and one result
abbrev pub IsCastIn : Op → Cast → Type 0
IsCastIn f c = AnyOf (λ d. c ≡ d) (casts_in (types_of f) (operations f))

-- Casts of a function that undo others are left out one after another, in any order: the uses of each go to what the other casts.
pub data Undone : Op → Op → Type 0 where
  as_it_is : {f : Op} → Undone f f
  one_less : {f g : Op} (cast other : Cast) → IsCastIn f cast → IsCastIn f other → undoes cast other ≡ true → Undone (without_pair (cast.result, other.operand) f) g → Undone f g

-- in each of these functions
pub data AllUndone : List Op → List Op → Type 0 where
  no_function : AllUndone [] []
  undone : {f g : Op} {fs gs : List Op} → Undone f g → AllUndone fs gs → AllUndone (f ∷ fs) (g ∷ gs)

-- casts that undo others may be left out of the functions of a verified module, at any width of an index
abbrev pub UndoneCastsKeep : Type 0
UndoneCastsKeep = (bits : ℕ) (m : PlainModule) (funcs : List Op) → Verified m → AllUndone m.funcs funcs → AgreesS bits m (with_functions m funcs)

-- the casts that reconciliation leaves out first are such casts
abbrev pub PairsAreUndone : Type 0
PairsAreUndone = (room : ℕ) (f : Op) → Undone f (pairs_left_out room f)
