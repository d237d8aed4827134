-- What is made of each item of a list, where something is made of each.
use Rattle.std.specs.Prelude.{List, [], ◌∷◌, Option, Some, option_and_then, option_map}

abbrev pub with_first : {Y : Type 0} → Option Y → Option (List Y) → Option (List Y)
with_first first rest = option_and_then (λ y. option_map (λ ys. y ∷ ys) rest) first

abbrev pub all_of : {X Y : Type 0} → (X → Option Y) → List X → Option (List Y)
all_of f [] = Some []
all_of f (x ∷ xs) = with_first (f x) (all_of f xs)
