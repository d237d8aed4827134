-- Reconciliation: casts that undo each other are left out, and so are casts without uses.
use Rattle.std.specs.Prelude.{ℕ, zero, suc, ◌==◌, Bool, true, false, not, ◌&&◌, List, [], ◌∷◌, ◌++◌, length, Option, Some, None, if◌then◌else◌, codes}
use Rattle.std.specs.List.{list_any}
use Rattle.std.specs.Str.{bytes_eq}
use Rattle.plain_tree.specs.Types.{PlainType, same_type}
use Rattle.plain_tree.specs.Ops.{Op, op, Values}
use Rattle.conversion_model.specs.Targets.{name_of, operands_of}
use Rattle.conversion_model.specs.Uses.{operations, op_uses, op_without, replaced, types_of}

-- a cast of one operand and one result: its operand and its type, its result and its type
pub record Cast : Type 0 where
  pub operand : ℕ
  pub from : PlainType
  pub result : ℕ
  pub to : PlainType

abbrev pub is_cast : Op → Bool
is_cast o = bytes_eq (name_of o) (codes "builtin.unrealized_conversion_cast")

abbrev pub cast_in : (ℕ → PlainType) → Op → List Cast
cast_in type_of (op k (r ∷ []) (v ∷ []) regions successors) =
    if bytes_eq k.name (codes "builtin.unrealized_conversion_cast") then record { operand = v; from = type_of v; result = r.0; to = r.1 } ∷ [] else []
cast_in type_of _ = []

-- the casts of one operand and one result, in the order of the text
abbrev pub casts_in : (ℕ → PlainType) → List (ℕ × Op) → List Cast
casts_in type_of [] = []
casts_in type_of (o ∷ os) = cast_in type_of o.1 ++ casts_in type_of os

-- whether the second cast's result is the first one's operand, the two undo each other, and the second one's operand isn't
-- the first one's result
abbrev pub undoes : Cast → Cast → Bool
undoes c d = (d.result == c.operand) && (same_type d.from c.to && not (d.operand == c.result))

-- the value that can stand for the cast's result
abbrev pub stands_for : Cast → List Cast → Option ℕ
stands_for c [] = None
stands_for c (d ∷ ds) = if undoes c d then Some d.operand else stands_for c ds

abbrev pub pair_or : Cast → Option ℕ → Option (ℕ × ℕ) → Option (ℕ × ℕ)
pair_or c None other = other
pair_or c (Some v) other = Some (c.result, v)

-- the first cast that can be replaced, by its result, and the value that can stand for it
abbrev pub first_pair : List Cast → List Cast → Option (ℕ × ℕ)
first_pair all [] = None
first_pair all (c ∷ cs) = pair_or c (stands_for c all) (first_pair all cs)

abbrev pub pair_of : Op → Option (ℕ × ℕ)
pair_of f = let all : List Cast = casts_in (types_of f) (operations f) in first_pair all all

-- whether an operation is a cast of one operand with that result
abbrev pub is_cast_of : ℕ → Op → Bool
is_cast_of n (op k (r ∷ []) (v ∷ []) regions successors) = bytes_eq k.name (codes "builtin.unrealized_conversion_cast") && (r.0 == n)
is_cast_of n _ = false

-- the cast gives its uses to the value and is left out
abbrev pub without_pair : ℕ × ℕ → Op → Op
without_pair p f = op_uses (replaced p.0 p.1) (op_without (is_cast_of p.0) f)

abbrev pub pairs_left_out : ℕ → Op → Op
pairs_left_out zero f = f
pairs_left_out (suc room) f = elim (pair_of f) [ None ↦ f | Some p ↦ pairs_left_out room (without_pair p f) ]

abbrev pub is_used : List (ℕ × Op) → ℕ → Bool
is_used os n = list_any (λ o. list_any (λ v. v == n) (operands_of o.1)) os

abbrev pub results_of : Op → Values
results_of (op k results operands regions successors) = results

-- whether an operation is a cast none of whose results is used, whatever its numbers of operands and results
abbrev pub is_unused_cast : List (ℕ × Op) → Op → Bool
is_unused_cast os o = is_cast o && not (list_any (λ r. is_used os r.0) (results_of o))

-- casts without uses are left out until there is none
abbrev pub unused_left_out : ℕ → Op → Op
unused_left_out zero f = f
unused_left_out (suc room) f =
    let os : List (ℕ × Op) = operations f in
    elim (list_any (λ o. is_unused_cast os o.1) os) [ false ↦ f | true ↦ unused_left_out room (op_without (is_unused_cast os) f) ]

-- each step leaves out an operation, so there are no more steps than operations
abbrev pub reconciled : Op → Op
reconciled f = let room : ℕ = length (operations f) in unused_left_out room (pairs_left_out room f)
