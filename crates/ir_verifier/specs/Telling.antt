-- What an answer says: that no rule is broken, or which is the first.
use Rattle.std.specs.Prelude.{◌≡◌, ℕ, true, List, [], Option, Some, None}
use Rattle.std.specs.List.{list_all}
use Rattle.plain_tree.specs.Ops.{Op, PlainModule}
use Rattle.first_places.specs.Numbering.{is_numbered_once}
use Rattle.rule_model.specs.declared.rules.Rule.{Rule}
use Rattle.rule_model.specs.Facts.{Functions}
use Rattle.rule_model.specs.Rules.{Broken, BrokenFrom, BrokenIn, SoundFrom, SoundFunction}
use Rattle.ir_verifier.specs.declared.broken.BrokenRule.{BrokenRule}

-- of a function: the number of the operation, and the rule
abbrev pub TellsFunction : Functions → Op → Option (record { 0 : ℕ; 1 : Rule }) → Type 0
TellsFunction c f None = SoundFunction c f
TellsFunction c f (Some found) = BrokenIn c f found.0 found.1

-- of these functions in order
abbrev pub TellsFunctions : List Op → Option BrokenRule → Type 0
TellsFunctions funcs None = SoundFrom funcs [] funcs
TellsFunctions funcs (Some b) = BrokenFrom funcs [] funcs b.function b.operation b.rule

-- each function of a module numbers each of its values and each of its blocks once
abbrev pub Numbered : PlainModule → Type 0
Numbered m = list_all is_numbered_once m.funcs ≡ true

-- Of a module that is numbered so, and of no other: no rule is broken in it, or this is the function, the operation and the rule that
-- is broken first.

abbrev pub Passes : PlainModule → Type 0
Passes m = Numbered m → SoundFrom m.funcs [] m.funcs

abbrev pub Fails : PlainModule → BrokenRule → Type 0
Fails m b = Numbered m × Broken m b.function b.operation b.rule

abbrev pub Tells : PlainModule → Option BrokenRule → Type 0
Tells m None = Passes m
Tells m (Some b) = Fails m b
