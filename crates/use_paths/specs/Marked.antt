-- Marks of the blocks that are reached.
use Rattle.std.specs.Prelude.{◌≡◌, ℕ, ◌<◌, ◌↔◌, nat_eq, Bool, true, false, List, [], ◌∷◌, length, get_or, Some}
use Rattle.std.specs.Global.{Vec}
use Rattle.std.specs.HashMap.{HashMap, get}
use Rattle.block_search.specs.Reach.{Reached, followed}

-- a block is reached from the first one with a block left out
abbrev pub ReachedWithout : List (List ℕ) → ℕ → ℕ → Type 0
ReachedWithout edges out n = (n < length edges) × Reached (followed edges out) (0 ∷ []) n

abbrev pub Marked : List (List ℕ) → ℕ → List Bool → Type 0
Marked edges out marks = (n : ℕ) → (get_or marks n false ≡ true) ↔ ReachedWithout edges out n

-- each list of marks that was kept is right
pub record AreRight {S : Type 0} (edges : List (List ℕ)) (found : HashMap ℕ (Vec Bool) S) : Type 0 where
  pub at : (out : ℕ) (marks : Vec Bool) → get nat_eq found out ≡ Some marks → Marked edges out marks.items
