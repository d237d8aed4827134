-- Which rule a module breaks.
use Rattle.std.specs.Prelude.{[]}
use Rattle.plain_tree.specs.Ops.{PlainModule}
use Rattle.rule_model.specs.Rules.{Broken, SoundFrom}
use Rattle.ir_verifier.specs.declared.broken.BrokenRule.{BrokenRule}

-- none
abbrev pub KeepsRules : PlainModule → Type 0
KeepsRules m = SoundFrom m.funcs [] m.funcs

-- this one, at the first operation that breaks any, in the first function that has such an operation; and it is the first rule that this operation breaks
abbrev pub BreaksRule : PlainModule → BrokenRule → Type 0
BreaksRule m b = Broken m b.function b.operation b.rule
