-- Renamings of numbers.
use Rattle.std.specs.Prelude.{◌≡◌, ℕ, List, map}

-- some renaming takes the first list to the second, place by place: equal numbers get equal numbers
abbrev pub Renames : List ℕ → List ℕ → Type 0
Renames from to = (rename : ℕ → ℕ) × (map rename from ≡ to)

-- a one-to-one renaming takes the first list to the second: one takes it there, and one takes it back
abbrev pub OneToOne : List ℕ → List ℕ → Type 0
OneToOne a b = Renames a b × Renames b a
