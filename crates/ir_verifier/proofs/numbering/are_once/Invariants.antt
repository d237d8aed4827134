use Rattle.std.proofs.Common.{◌≡◌, ◌≤◌, ℕ, true, drop, length}
use Rattle.std.specs.Prelude.{nat_eq}
use Rattle.std.specs.HashSet.{contains}
use Rattle.rule_model.specs.Words.{has}
use Rattle.rule_model.specs.Formed.{are_once}
use Rattle.ir_verifier.proofs.numbering.are_once.Given as goal

abbrev pub invariant-loop-index : goal.invariant-loop-index
invariant-loop-index l = record {
  within : l.index ≤ length l.found;
  once : are_once (drop l.index l.found) ≡ true;
  known : (n : ℕ) → contains nat_eq l.seen n ≡ has n (drop l.index l.found);
}

abbrev pub decreases-loop-index : goal.decreases-loop-index
decreases-loop-index l = l.index
