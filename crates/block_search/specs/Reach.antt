-- What is reached in a graph, and what marking nodes does.
use Rattle.std.specs.Prelude.{◌≡◌, ℕ, ◌+◌, ◌<◌, ◌==◌, Bool, true, false, List, [], ◌∷◌, ◌++◌, map, length, get_or, if◌then◌else◌}
use Rattle.std.specs.Global.{Vec}
use Rattle.rule_model.specs.Words.{has}

-- a node is reached: it is one of the starts, or follows one that is reached
pub data Reached (next : ℕ → List ℕ) (starts : List ℕ) : ℕ → Type 0 where
  begins : (n : ℕ) → has n starts ≡ true → Reached next starts n
  follows : (m n : ℕ) → Reached next starts m → has n (next m) ≡ true → Reached next starts n

abbrev pub rows : List (Vec ℕ) → List (List ℕ)
rows edges = map (λ row. row.items) edges

-- what follows a node: nothing where it is left out
abbrev pub followed : List (List ℕ) → ℕ → ℕ → List ℕ
followed edges left_out n = if n == left_out then [] else get_or edges n []

-- how many marks aren't set
abbrev pub unmarked : List Bool → ℕ
unmarked [] = 0
unmarked (true ∷ marks) = unmarked marks
unmarked (false ∷ marks) = unmarked marks + 1

-- the nodes in order are those with a mark, each once
pub record Agrees (marks : List Bool) (order : List ℕ) : Type 0 where
  pub inside : (k : ℕ) → get_or marks k false ≡ true → has k order ≡ true
  pub marked : (k : ℕ) → has k order ≡ true → get_or marks k false ≡ true
  pub counted : length order + unmarked marks ≡ length marks

-- of some nodes each that had no mark now has one, and stands behind the others
pub record Marks (marks : List Bool) (order nodes : List ℕ) (new_marks : List Bool) (new_order : List ℕ) : Type 0 where
  pub added : List ℕ
  pub is : new_order ≡ order ++ added
  pub from : (k : ℕ) → has k added ≡ true → has k nodes ≡ true
  pub whole : Agrees marks order → (k : ℕ) → has k nodes ≡ true → k < length marks → has k new_order ≡ true
  pub size : length new_marks ≡ length marks
  pub agrees : Agrees marks order → Agrees new_marks new_order
