use Rattle.std.proofs.Common.{◌≡◌, drop}
use Rattle.new_numbers.specs.Tops.{over_numbers}
use Rattle.new_numbers.proofs.walk.see_numbers.Given as goal

abbrev pub invariant-loop-number : goal.invariant-loop-number
invariant-loop-number l = over_numbers (drop l.number-index l.numbers) l.tops ≡ over_numbers l.numbers l.initial.tops
