-- Which casts undo each other, found in one pass.
use Rattle.std.specs.Prelude.{ℕ, ◌==◌, Bool, true, false, not, ◌&&◌, ◌||◌, List, [], ◌∷◌, ◌++◌, map, Option, Some, None, if◌then◌else◌}
use Rattle.std.specs.List.{list_any}
use Rattle.plain_tree.specs.Types.{PlainType, same_type}
use Rattle.plain_tree.specs.Ops.{Values}
use Rattle.conversion_model.specs.Reconciled.{Cast}
use Rattle.conversion_model.specs.Uses.{replaced}
use Rattle.tree_reconcile.specs.Lines.{Line}

-- a cast of one operand and one result: its operand, its result and that one's type
pub record Single : Type 0 where
  pub operand : ℕ
  pub result : ℕ
  pub to : PlainType

-- with the type of its operand
abbrev pub cast_by : (ℕ → PlainType) → Single → Cast
cast_by type_of c = record { operand = c.operand; from = type_of c.operand; result = c.result; to = c.to }

abbrev pub casts_by : (ℕ → PlainType) → List Single → List Cast
casts_by type_of cs = map (cast_by type_of) cs

abbrev pub single_of : Bool → Values → List ℕ → List Single
single_of true (r ∷ []) (v ∷ []) = record { operand = v; result = r.0; to = r.1 } ∷ []
single_of _ _ _ = []

abbrev pub single_in : Line → List Single
single_in l = single_of l.is_cast l.results l.operands

-- the casts of one operand and one result, in the order of the text
abbrev pub singles : List Line → List Single
singles [] = []
singles (l ∷ ls) = single_in l ++ singles ls

abbrev pub has_result : List Single → ℕ → Bool
has_result cs n = list_any (λ (c : Single). c.result == n) cs

-- whether no cast's operand is its own result or that of one behind it, and no two have one result
abbrev pub is_in_order : List Single → Bool
is_in_order [] = true
is_in_order (c ∷ cs) = is_in_order cs && (not (has_result cs c.result) && not (has_result (c ∷ cs) c.operand))

-- what is known of the casts so far: what each value stands for, which results were given up, and of each result of a
-- cast that stays the operand
pub record Plan : Type 0 where
  pub to : ℕ → ℕ
  pub gone : ℕ → Bool
  pub kept : ℕ → Option ℕ

-- at the start each value stands for itself
abbrev pub at_start : Plan
at_start = record { to = λ v. v; gone = λ v. false; kept = λ v. None }

-- the operand of the cast behind a value, if the other cast undoes that one
abbrev pub undone_by : (ℕ → PlainType) → Plan → Single → Option ℕ → Option ℕ
undone_by type_of p c None = None
undone_by type_of p c (Some v) = if same_type (type_of (p.to v)) c.to && not (p.to v == c.result) then Some v else None

-- the cast stays, or its result is given up
abbrev pub planned : Plan → Single → Option ℕ → Plan
planned p c None = record p { kept = λ n. if c.result == n then Some c.operand else p.kept n }
planned p c (Some v) = record p { to = λ n. replaced c.result (p.to v) (p.to n); gone = λ n. (c.result == n) || p.gone n }

abbrev pub with_cast : (ℕ → PlainType) → Plan → Single → Plan
with_cast type_of p c = planned p c (undone_by type_of p c (p.kept (p.to c.operand)))

abbrev pub with_casts : (ℕ → PlainType) → Plan → List Single → Plan
with_casts type_of p [] = p
with_casts type_of p (c ∷ cs) = with_casts type_of (with_cast type_of p c) cs

-- a cast of one operand and one result, the latter given up
abbrev pub is_gone : (ℕ → Bool) → Line → Bool
is_gone gone l = list_any (λ (c : Single). gone c.result) (single_in l)
