use Rattle.std.proofs.Common.{◌≡◌, drop}
use Rattle.plain_tree.specs.Types.{plain_type}
use Rattle.rule_facts.specs.Views.{walked}
use Rattle.rule_facts.proofs.parts.walk.Given as goal

abbrev pub invariant-loop-number : goal.invariant-loop-number
invariant-loop-number l = walked (drop l.number-index l.numbers) (plain_type l.part) ≡ walked l.numbers (plain_type l.t)
