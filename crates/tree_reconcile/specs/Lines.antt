-- What reconciliation looks at of the operations of a tree.
use Rattle.std.specs.Prelude.{ℕ, ◌==◌, Bool, true, false, not, ◌&&◌, ◌||◌, List, [], ◌∷◌, map, if◌then◌else◌}
use Rattle.std.specs.List.{list_all, list_any}
use Rattle.std.specs.Borrow.{Bor}
use Rattle.tree_model.specs.declared.op_tree.OpTree.{OpTree}
use Rattle.plain_tree.specs.Ops.{Op, Regions, end_of_regions, region, Values, plain_op}
use Rattle.conversion_model.specs.Targets.{operands_of}
use Rattle.conversion_model.specs.Conversion.{regions_of}
use Rattle.conversion_model.specs.Reconciled.{is_cast, results_of}

-- whether an operation is a cast, its results and its operands
pub record Line : Type 0 where
  pub is_cast : Bool
  pub results : Values
  pub operands : List ℕ

abbrev pub line_of : Op → Line
line_of o = record { is_cast = is_cast o; results = results_of o; operands = operands_of o }

-- the line of a tree
unfoldable pub line_at : OpTree → Line
line_at o = line_of (plain_op o)

abbrev pub lines_at : List (Bor OpTree) → List Line
lines_at os = map (λ o. line_at o.now) os

abbrev pub has_no_regions : Regions → Bool
has_no_regions end_of_regions = true
has_no_regions (region blocks more) = false

-- whether an operation has no regions, if it is a cast
abbrev pub is_bare : Op → Bool
is_bare o = not (is_cast o) || has_no_regions (regions_of o)

unfoldable pub has_none_at : OpTree → Bool
has_none_at o = has_no_regions (regions_of (plain_op o))

abbrev pub is_bare_at : OpTree → Bool
is_bare_at o = not (line_at o).is_cast || has_none_at o

-- Uses

abbrev pub among : ℕ → List ℕ → Bool
among v vs = list_any (λ u. u == v) vs

-- whether one of the lines has the value among its operands
abbrev pub uses : List Line → ℕ → Bool
uses ls v = list_any (λ l. among v l.operands) ls

-- whether one of the results is used, where that says which values are
abbrev pub any_used : (ℕ → Bool) → Values → Bool
any_used used results = list_any (λ r. used r.0) results

-- a cast none of whose results is used
abbrev pub is_unused : (ℕ → Bool) → Line → Bool
is_unused used l = l.is_cast && not (any_used used l.results)

-- whether a cast among the lines has the value as a result
abbrev pub is_result : List Line → ℕ → Bool
is_result ls v = list_any (λ l. l.is_cast && list_any (λ r. r.0 == v) l.results) ls

-- the results of a cast, with others
abbrev pub with_results : Line → (ℕ → Bool) → ℕ → Bool
with_results l others v = (l.is_cast && list_any (λ r. r.0 == v) l.results) || others v

-- whether no cast has the result of a cast as an operand that is behind it, or is itself
abbrev pub is_forward : List Line → Bool
is_forward [] = true
is_forward (l ∷ ls) = is_forward ls && (not l.is_cast || list_all (λ v. not (is_result (l ∷ ls) v)) l.operands)

-- the values that operations other than casts use
abbrev pub used_by_others : List Line → ℕ → Bool
used_by_others ls v = list_any (λ l. not l.is_cast && among v l.operands) ls

-- the operands of a cast are used, too, if one of its results is
abbrev pub with_line : Line → (ℕ → Bool) → ℕ → Bool
with_line l used = if l.is_cast && any_used used l.results then (λ v. among v l.operands || used v) else used

-- the values that are used in the end, by the lines from the last to the first
abbrev pub with_lines : List Line → (ℕ → Bool) → ℕ → Bool
with_lines [] used = used
with_lines (l ∷ ls) used = with_line l (with_lines ls used)
