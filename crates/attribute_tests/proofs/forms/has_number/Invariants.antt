use Rattle.std.proofs.Common.{◌≡◌, ◌==◌, drop}
use Rattle.std.specs.List.{list_any}
use Rattle.attribute_tests.proofs.forms.has_number.Given as goal

abbrev pub invariant-loop-other : goal.invariant-loop-other
invariant-loop-other l = list_any (λ a. a == l.number) (drop l.other-index l.numbers) ≡ list_any (λ a. a == l.number) l.numbers
