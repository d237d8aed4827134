-- What lists of borrowed types, and a table of the types of values, stand for.
use Rattle.std.specs.Prelude.{ℕ, ◌==◌, nat_eq, List, [], ◌∷◌, map, Option, Some, None, is_some, option_map, unwrap_or, if◌then◌else◌}
use Rattle.std.specs.Borrow.{Bor}
use Rattle.std.specs.HashMap.{get}
use Rattle.tree_model.specs.declared.type_tree.TypeTree.{TypeTree}
use Rattle.plain_tree.specs.Types.{PlainType, Void, plain_type}
use Rattle.plain_tree.specs.Ops.{Values}
use Rattle.value_types.specs.declared.table.ValueTypes.{ValueTypes}

-- types that are borrowed
abbrev pub plain_types : List (Bor TypeTree) → List PlainType
plain_types ts = map (λ t. plain_type t.now) ts

-- the type of each number
abbrev pub types_in : ValueTypes → ℕ → Option PlainType
types_in t = λ n. option_map (λ r. plain_type r.now) (get nat_eq t.by_number n)

-- and `void` for a number that has none
abbrev pub type_at : ValueTypes → ℕ → PlainType
type_at t = λ n. unwrap_or (types_in t n) Void

abbrev pub at_start : ℕ → Option PlainType
at_start = λ n. None

-- a number has what it got first
abbrev pub with_first : (ℕ → Option PlainType) → ℕ → PlainType → ℕ → Option PlainType
with_first f key t q = if is_some (f key) then f q else (if key == q then Some t else f q)

-- values in order
abbrev pub with_types : (ℕ → Option PlainType) → Values → ℕ → Option PlainType
with_types f [] = f
with_types f (v ∷ vs) = with_types (with_first f v.0 v.1) vs
