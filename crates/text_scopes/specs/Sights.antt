-- What each use sees, looking back and looking ahead, as the code finds it.
use Rattle.std.specs.Prelude.{ℕ, suc, ◌-◌, Bool, true, false, List, [], ◌∷◌, ◌++◌, drop, map, reverse, Option, Some, None, option_map, if◌then◌else◌}
use Rattle.text_scopes.specs.declared.steps.Step.{Step}
use Rattle.text_scopes.specs.declared.steps.Step.TheVariants as steps
use Rattle.text_scopes.specs.Seen.{Turn, mirror, or_else, seen, told}

-- the turns, or read from the end
abbrev pub read : Bool → List Turn → List Turn
read false ts = ts
read true ts = reverse (map mirror ts)

-- what each use sees, looking back
abbrev pub sights : Bool → List Turn → List Turn → List (Option ℕ)
sights out before [] = []
sights out before (t ∷ ts) = told t.0 (seen out t.1.name 0 before) ++ sights out (t ∷ before) ts

abbrev pub first_of : List (Option ℕ) → Option ℕ
first_of [] = None
first_of (o ∷ os) = o

abbrev pub inner : Option (Option ℕ) → Option ℕ
inner None = None
inner (Some o) = o

abbrev pub either : ℕ → Option ℕ → Option ℕ → Option ℕ
either last one other = or_else one (option_map (λ beyond. last - beyond) other)

-- what is behind, and where that is nothing what is ahead
abbrev pub join : ℕ → List (Option ℕ) → List (Option ℕ) → List (Option ℕ)
join last [] others = []
join last (o ∷ os) others = either last o (first_of others) ∷ join last os (drop 1 others)

abbrev pub is_use : Step → Bool
is_use steps.Uses = true
is_use steps.Misses = true
is_use _ = false

abbrev pub lacks : List (Option ℕ) → Bool
lacks (Some n ∷ os) = false
lacks _ = true

-- the first use without a definition, counted from a number
abbrev pub first_missing : List Step → List (Option ℕ) → ℕ → Option ℕ
first_missing [] definitions n = None
first_missing (s ∷ ss) definitions n =
    if is_use s then (if lacks definitions then Some n else first_missing ss (drop 1 definitions) (suc n)) else first_missing ss definitions (suc n)
