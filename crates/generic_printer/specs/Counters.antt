-- How a walk along the places of a function names: it keeps the next number of each count, where
-- the definition of the printed text counts the places before. `counts_along` says that it comes to
-- the same.
use Rattle.std.specs.Prelude.{ℕ, ◌+◌, ◌==◌, false, ◌||◌, List, [], ◌∷◌, Option, Some, None, is_some, if◌then◌else◌}
use Rattle.tree_model.specs.declared.type_tree.TypeTree.{TypeTree}
use Rattle.text_model.specs.declared.value_name.ValueName.{ValueName}
use Rattle.text_model.specs.declared.value_name.ValueName.TheVariants.{Argument, Single, Part}
use Rattle.text_model.specs.PrintedPlaces.{Place, argument_at, single_at, group_at, successor_at, block_at}
use Rattle.text_model.specs.PrintedNames.{Names}

-- the next number of each count, and what is named so far
pub record Counters : Type 0 where
  pub next_argument : ℕ
  pub next_other : ℕ
  pub names : Names

-- nothing is named yet
abbrev pub at_start : Counters
at_start = record { next_argument = 0; next_other = 0; names = record { name = λ v. None; type_of = λ v. None; position = λ l. None; is_target = λ l. false } }

-- a key has what it got first
abbrev pub with_first : {A : Type 0} → (ℕ → Option A) → ℕ → A → ℕ → Option A
with_first f key a q = if is_some (f key) then f q else (if key == q then Some a else f q)

-- a value gets a name and its type
abbrev pub with_name : Names → (ℕ × TypeTree) → ValueName → Names
with_name n v name = record n { name = with_first n.name v.0 name; type_of = with_first n.type_of v.0 v.1 }

-- several results from the k-th on, which are parts of one number
abbrev pub with_parts : Names → ℕ → ℕ → List (ℕ × TypeTree) → Names
with_parts n number k [] = n
with_parts n number k (v ∷ vs) = with_parts (with_name n v (Part number k)) number (k + 1) vs

-- a place
abbrev pub with_place : Counters → Place → Counters
with_place c (argument_at v) = record { next_argument = c.next_argument + 1; next_other = c.next_other; names = with_name c.names v (Argument c.next_argument) }
with_place c (single_at v) = record { next_argument = c.next_argument; next_other = c.next_other + 1; names = with_name c.names v (Single c.next_other) }
with_place c (group_at vs) = record { next_argument = c.next_argument; next_other = c.next_other + 1; names = with_parts c.names c.next_other 0 vs }
with_place c (successor_at label) = record c { names = record c.names { is_target = λ q. (label == q) || c.names.is_target q } }
with_place c (block_at n label) = record c { names = record c.names { position = with_first c.names.position label n } }

-- places in order
abbrev pub with_places : Counters → List Place → Counters
with_places c [] = c
with_places c (p ∷ ps) = with_places (with_place c p) ps
