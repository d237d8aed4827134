-- What is found in one pass, and what it leaves of a tree.
use Rattle.std.specs.Prelude.{◌≡◌, ℕ, length}
use Rattle.plain_tree.specs.Ops.{Op}
use Rattle.conversion_model.specs.Reconciled.{pairs_left_out, unused_left_out}
use Rattle.conversion_model.specs.Uses.{operations}
use Rattle.stand_ins.specs.Tables.{stands_for}
use Rattle.tree_uses.specs.Edited.{edited}
use Rattle.tree_reconcile.specs.declared.omitted.UsedValues.{UsedValues}
use Rattle.tree_reconcile.specs.declared.plan.PlanTable.{PlanTable}
use Rattle.tree_reconcile.specs.Lines.{is_unused, line_of}
use Rattle.tree_reconcile.specs.Plans.{is_gone}
use Rattle.tree_reconcile.specs.Views.{holds, plan_at}

-- the tree of whose operations each value is the one for which it stands, without the casts that were given up, is the one
-- without casts that undo each other
abbrev pub LeavesPairs : PlanTable → Op → Type 0
LeavesPairs p f = (g : Op) → g ≡ edited (stands_for p.to) (λ o. is_gone (plan_at p).gone (line_of o)) f → g ≡ pairs_left_out (length (operations f)) f

-- the tree without casts none of whose results is among these values is the one without casts that are not used
abbrev pub LeavesUsed : UsedValues → ℕ → Op → Type 0
LeavesUsed u room f = (to : ℕ → ℕ) (g : Op) → to ≡ (λ v. v) → g ≡ edited to (λ o. is_unused (holds u.values) (line_of o)) f → g ≡ unused_left_out room f
