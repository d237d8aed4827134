-- Equality of functions up to the numbers of values and the labels of blocks.
use Rattle.std.specs.Prelude.{◌≡◌}
use Rattle.tree_model.specs.declared.op_tree.FuncTree.{FuncTree}
use Rattle.tree_shape.specs.WithoutNumbers.{op_without_numbers}
use Rattle.tree_shape.specs.NumbersOf.{values_of_op, labels_of_op}
use Rattle.tree_shape.specs.Renaming.{OneToOne}

-- two functions are the same: without their numbers they are equal, and the numbers that stand at the
-- same places are renamed one-to-one, those of values and, apart from them, the labels
pub record Same (a b : FuncTree) : Type 0 where
  pub rest : op_without_numbers a.op ≡ op_without_numbers b.op
  pub values : OneToOne (values_of_op a.op) (values_of_op b.op)
  pub labels : OneToOne (labels_of_op a.op) (labels_of_op b.op)
