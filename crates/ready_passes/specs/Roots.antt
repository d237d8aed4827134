-- The roots of patterns.
use Rattle.std.specs.Prelude.{ℕ, ◌+◌, List, [], ◌∷◌, map, if◌then◌else◌}
use Rattle.std.specs.Str.{bytes_eq}
use Rattle.conversion_model.specs.Rows.{Pattern}

abbrev pub roots_in : List Pattern → List (List ℕ)
roots_in ps = map (λ p. p.root) ps

-- how many names are this one
abbrev pub count_of : List ℕ → List (List ℕ) → ℕ
count_of name [] = 0
count_of name (root ∷ roots) = if bytes_eq root name then count_of name roots + 1 else count_of name roots
