use Rattle.std.proofs.Common.{◌≡◌, drop}
use Rattle.plain_tree.specs.Ops.{plain_values}
use Rattle.new_numbers.specs.Tops.{over_values}
use Rattle.new_numbers.proofs.walk.see_values.Given as goal

abbrev pub invariant-loop-value : goal.invariant-loop-value
invariant-loop-value l = over_values (plain_values (drop l.value-index l.values)) l.tops ≡ over_values (plain_values l.values) l.initial.tops
