use Rattle.std.proofs.Common.{◌≡◌, drop}
use Rattle.new_numbers.specs.Tops.{over_labels}
use Rattle.new_numbers.proofs.walk.see_labels.Given as goal

abbrev pub invariant-loop-label : goal.invariant-loop-label
invariant-loop-label l = over_labels (drop l.label-index l.labels) l.tops ≡ over_labels l.labels l.initial.tops
