use Rattle.std.proofs.Common.{◌≡◌, ◌+◌, ◌≤◌, drop}
use Rattle.rule_model.specs.Forms.{dynamic_count}
use Rattle.value_types.proofs.kinds.dynamic_count.Given as goal

abbrev pub invariant-loop-dim : goal.invariant-loop-dim
invariant-loop-dim l = record {
  is : l.count + dynamic_count (drop l.dim-index l.dims) ≡ dynamic_count l.dims;
  small : l.count ≤ l.dim-index;
}
