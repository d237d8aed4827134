use Rattle.std.proofs.Common.{◌≡◌, ◌^◌, ◌≤◌, min, drop, length}
use Rattle.operation_model.specs.Straight as model
use Rattle.layout_code.specs.Sizes.{sizes_of}
use Rattle.layout_code.proofs.counts.element_count.Given as goal

abbrev pub decreases-loop-i : goal.decreases-loop-i
decreases-loop-i l = l.i

abbrev pub invariant-loop-i : goal.invariant-loop-i
invariant-loop-i l = record { within : l.i ≤ length l.sizes; is : l.count ≡ min (model.elements (sizes_of (drop l.i l.sizes))) (2 ^ 65) }
