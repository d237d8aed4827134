-- Texts one after another.
use Rattle.std.specs.Prelude.{ℕ, List, [], ◌∷◌, ◌++◌, flat_map}

-- each text behind the separator
abbrev pub led_by : List ℕ → List (List ℕ) → List ℕ
led_by separator texts = flat_map (λ t. separator ++ t) texts

-- the texts with the separator between each two
abbrev pub joined : List ℕ → List (List ℕ) → List ℕ
joined separator [] = []
joined separator (t ∷ ts) = t ++ led_by separator ts
