-- Tables in which a key keeps what it got first.
use Rattle.std.specs.Prelude.{ℕ, ◌==◌, nat_eq, List, [], ◌∷◌, Option, Some, None, is_some, unwrap_or, if◌then◌else◌}
use Rattle.std.specs.HashMap.{HashMap, get}

-- what each number has
abbrev pub table_in : {A S : Type 0} → HashMap ℕ A S → ℕ → Option A
table_in m = λ n. get nat_eq m n

abbrev pub with_first : {A : Type 0} → (ℕ → Option A) → ℕ → A → ℕ → Option A
with_first f key a q = if is_some (f key) then f q else (if key == q then Some a else f q)

abbrev pub with_firsts : {A : Type 0} → (ℕ → Option A) → List (ℕ × A) → ℕ → Option A
with_firsts f [] = f
with_firsts f (p ∷ ps) = with_firsts (with_first f p.0 p.1) ps

abbrev pub nothing_yet : {A : Type 0} → ℕ → Option A
nothing_yet = λ q. None

-- what a label has, the number of blocks where it has nothing
abbrev pub place_by : (ℕ → Option ℕ) → ℕ → ℕ → ℕ
place_by f count l = unwrap_or (f l) count
