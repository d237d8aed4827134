use Rattle.std.proofs.Common.{◌≡◌, ◌≤◌, drop, length}
use Rattle.std.specs.Prelude.{reverse}
use Rattle.number_model.specs.Numbers.{unsigned}
use Rattle.operation_model.specs.Straight as model
use Rattle.value_code.specs.Models.{values_of}
use Rattle.layout_code.specs.Sizes.{sizes_of}
use Rattle.layout_code.proofs.counts.strides_from_last.Given as goal

abbrev pub decreases-loop-i : goal.decreases-loop-i
decreases-loop-i l = l.i

abbrev pub invariant-loop-i : goal.invariant-loop-i
invariant-loop-i l = record {
  within : l.i ≤ length l.sizes;
  strides : values_of (reverse l.all.items) ≡ model.strides l.bits.bits (sizes_of (drop l.i l.sizes));
  next : l.stride ≡ unsigned l.bits.bits (model.elements (sizes_of (drop l.i l.sizes)));
}
