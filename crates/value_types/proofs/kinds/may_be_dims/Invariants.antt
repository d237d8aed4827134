use Rattle.std.proofs.Common.{◌≡◌, drop, length}
use Rattle.rule_model.specs.Forms.{may_be_dims}
use Rattle.value_types.proofs.kinds.may_be_dims.Given as goal

abbrev pub invariant-loop-dim : goal.invariant-loop-dim
invariant-loop-dim l = may_be_dims (drop (length l.yielded) l.dims) (drop (length l.yielded) l.others) ≡ may_be_dims l.dims l.others
