-- A table of the definitions in scope: what it holds of the turns before.
use Rattle.std.specs.Prelude.{◌≡◌, ℕ, zero, suc, ◌<◌, Bool, true, List, [], ◌∷◌, length, reverse, get_or, set, Option, Some, None, nat_le, if◌then◌else◌}
use Rattle.text_scopes.specs.declared.steps.Step.TheVariants as steps
use Rattle.text_scopes.specs.declared.scopes.Entry.{Entry}
use Rattle.text_scopes.specs.declared.scopes.Entry.TheVariants.{Region, Was}
use Rattle.text_scopes.specs.declared.scopes.Scopes.{Scopes}
use Rattle.text_scopes.specs.Seen.{Turn, seen}

-- where the region began in which a look, behind this many regions that are over, ends
abbrev pub start_of : Bool → ℕ → List Turn → ℕ
start_of out over [] = 0
start_of out over ((steps.Closes, e) ∷ ts) = start_of out (suc over) ts
start_of out zero ((steps.Opens, e) ∷ ts) = if out then start_of out zero ts else suc (length ts)
start_of out (suc over) ((steps.Opens, e) ∷ ts) = start_of out over ts
start_of out over ((steps.Ends, e) ∷ ts) = 0
start_of out over ((_, e) ∷ ts) = start_of out over ts

-- a definition that does not stand before the start
abbrev pub from : ℕ → Option ℕ → Option ℕ
from start None = None
from start (Some place) = if nat_le start place then Some place else None

-- what is known at a look: where the region began, and the definition of each name in it and around it
pub record Level : Type 0 where
  pub start : ℕ
  pub found : ℕ → Option ℕ

abbrev pub nothing : Level
nothing = record { start = 0; found = λ name. None }

-- behind this many regions that are over
abbrev pub levels : Bool → List Turn → ℕ → Level
levels out ts over = record { start = start_of out over ts; found = λ name. seen true name over ts }

-- the table has what is found
abbrev pub Agrees : List (Option ℕ) → (ℕ → Option ℕ) → Type 0
Agrees table found = (name : ℕ) → name < length table → get_or table name None ≡ found name

-- what is left of the table when a log of what was before is taken back, its last entry first: at each region's begin what is found behind it is over
abbrev pub Below : List Entry → List (Option ℕ) → (ℕ → Level) → Type 0
Below [] table ls = Agrees table (λ name. None) × ((over : ℕ) → (ls over).start ≡ 0) × ((over name : ℕ) → (ls over).found name ≡ None)
Below (Was name was ∷ log) table ls = Below log (set table name was) ls
Below (Region start ∷ log) table ls = (start ≡ (ls 0).start) × Agrees table (ls 0).found × Below log table (λ over. ls (suc over))

-- the table stands at the levels
abbrev pub Stands : Scopes → List (Option ℕ) → (ℕ → Level) → Type 0
Stands s table ls = Below (Region s.start ∷ reverse s.log.items) table ls
