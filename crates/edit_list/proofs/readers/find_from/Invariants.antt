use Rattle.std.proofs.Common.{◌≡◌, ℕ, ◌≤◌, ◌<◌, ◌+◌, length, get_or}
use Rattle.edit_list.proofs.readers.find_from.Given as goal

abbrev pub invariant-loop-step : goal.invariant-loop-step
invariant-loop-step l = (k : ℕ) → k < length l.list.list → l.from ≤ k + l.step → k < l.from + l.step → get_or l.list.list k 0 ≡ l.number → ⊥
