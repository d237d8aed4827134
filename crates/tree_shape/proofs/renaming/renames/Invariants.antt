use Rattle.std.proofs.Common.{◌≡◌, ℕ, ◌<◌, length, map, get_or, nat_eq}
use Rattle.std.specs.Prelude.{Some}
use Rattle.std.specs.HashMap.{get}
use Rattle.tree_shape.proofs.renaming.renames.Given as goal

abbrev pub invariant-loop-x : goal.invariant-loop-x
invariant-loop-x l = record {
  seen : (k : ℕ) → k < length l.yielded → get nat_eq l.names (get_or l.from k 0) ≡ Some (get_or l.to k 0);
  forced : (rename : ℕ → ℕ) → map rename l.from ≡ l.to → (q v : ℕ) → get nat_eq l.names q ≡ Some v → rename q ≡ v;
}
