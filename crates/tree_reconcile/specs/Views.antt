-- What tables and lists of the code stand for.
use Rattle.std.specs.Prelude.{ℕ, nat_eq, Bool, List, map}
use Rattle.std.specs.HashMap.{get}
use Rattle.std.specs.HashSet.{HashSet, contains}
use Rattle.plain_tree.specs.Types.{plain_type}
use Rattle.stand_ins.specs.Tables.{stands_for}
use Rattle.tree_reconcile.specs.declared.singles.SingleCast.{SingleCast}
use Rattle.tree_reconcile.specs.declared.plan.PlanTable.{PlanTable}
use Rattle.tree_reconcile.specs.Plans.{Plan, Single}

abbrev pub single_at : SingleCast → Single
single_at c = record { operand = c.operand; result = c.result; to = plain_type c.to.now }

abbrev pub singles_at : List SingleCast → List Single
singles_at cs = map single_at cs

-- whether a set has the number
abbrev pub holds : {S : Type 0} → HashSet ℕ S → ℕ → Bool
holds s n = contains nat_eq s n

abbrev pub plan_at : PlanTable → Plan
plan_at p = record { to = stands_for p.to; gone = λ n. contains nat_eq p.gone n; kept = λ n. get nat_eq p.kept n }
