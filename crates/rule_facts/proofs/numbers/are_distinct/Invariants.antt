use Rattle.std.proofs.Common.{◌≡◌, ◌≤◌, true, drop, length}
use Rattle.std.specs.Prelude.{ℤ}
use Rattle.std.specs.List.{list_any}
use Rattle.std.specs.Ordering.{int_eq}
use Rattle.std.specs.HashSet.{contains}
use Rattle.rule_model.specs.Forms.{are_distinct, same_number}
use Rattle.rule_facts.proofs.numbers.are_distinct.Given as goal

abbrev pub invariant-loop-index : goal.invariant-loop-index
invariant-loop-index l = record {
  within : l.index ≤ length l.numbers;
  once : are_distinct (drop l.index l.numbers) ≡ true;
  known : (z : ℤ) → contains int_eq l.seen z ≡ list_any (same_number z) (drop l.index l.numbers);
}

abbrev pub decreases-loop-index : goal.decreases-loop-index
decreases-loop-index l = l.index
