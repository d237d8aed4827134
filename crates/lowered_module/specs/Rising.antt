-- Failures in order.
use Rattle.std.specs.Prelude.{ℕ, ◌+◌, ◌≤◌, List, [], ◌∷◌, ⊤}
use Rattle.pattern_model.specs.Fold.{Failure}

-- at most one failure for each function, in the order of the functions from the k-th on
abbrev pub AreRising : ℕ → List Failure → Type 0
AreRising k [] = ⊤
AreRising k (e ∷ es) = (k ≤ e.function) × AreRising (e.function + 1) es
