-- Ranks that show that no cycle goes through a node.
use Rattle.std.specs.Prelude.{ℕ, ◌+◌, ◌<◌, nat_le, nat_lt, Bool, true, ◌&&◌, List, [], ◌∷◌, Option, Some, None, get_or, length}
use Rattle.std.specs.List.{list_all}
use Rattle.block_search.specs.Reach.{Reached, followed}

-- the rank of a node, the number of nodes where it is none of them
abbrev pub rank_of : List ℕ → ℕ → ℕ
rank_of ranks n = get_or ranks n (length ranks)

-- a node is followed by no node of higher rank
abbrev pub falls : List ℕ → ℕ → List ℕ → Bool
falls ranks m row = list_all (λ n. nat_le (rank_of ranks n) (rank_of ranks m)) row

-- a node is followed by nodes of lower rank alone
abbrev pub is_apart : List ℕ → ℕ → List ℕ → Bool
is_apart ranks m row = list_all (λ n. nat_lt (rank_of ranks n) (rank_of ranks m)) row

-- from the m-th node on
abbrev pub all_fall : List ℕ → ℕ → List (List ℕ) → Bool
all_fall ranks m [] = true
all_fall ranks m (row ∷ edges) = falls ranks m row && all_fall ranks (m + 1) edges

-- a path leads from a node back to it
abbrev pub OnCycle : List (List ℕ) → ℕ → Type 0
OnCycle edges n = Reached (followed edges (length edges)) (get_or edges n []) n

-- the first node on a cycle
abbrev pub FirstOnCycle : List (List ℕ) → Option ℕ → Type 0
FirstOnCycle edges None = (n : ℕ) → n < length edges → OnCycle edges n → ⊥
FirstOnCycle edges (Some k) = (k < length edges) × OnCycle edges k × ((n : ℕ) → n < k → OnCycle edges n → ⊥)
