-- Operations that are borrowed.
use Rattle.std.specs.Prelude.{List, map}
use Rattle.std.specs.Borrow.{Bor}
use Rattle.tree_model.specs.declared.op_tree.OpTree.{OpTree}
use Rattle.plain_tree.specs.Ops.{Op, plain_op}

abbrev pub plain_ops : List (Bor OpTree) → List Op
plain_ops os = map (λ o. plain_op o.now) os
