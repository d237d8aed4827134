-- What the laws of plain trees promise.
use Rattle.std.specs.Prelude.{◌≡◌}
use Rattle.tree_model.specs.declared.op_tree.OpTree.{OpTree}
use Rattle.tree_model.specs.declared.op_tree.ModuleTree.{ModuleTree}
use Rattle.plain_tree.specs.Ops.{Op, op_tree, plain_op, module_tree, plain_module}

-- a tree is that of its plain form
abbrev pub TreeOfPlain : Type 0
TreeOfPlain = (o : OpTree) → op_tree (plain_op o) ≡ o

-- a module is the tree of its plain form
abbrev pub ModuleOfPlain : Type 0
ModuleOfPlain = (m : ModuleTree) → module_tree (plain_module m) ≡ m

-- the plain form of the tree of a plain operation is that operation
abbrev pub PlainOfTree : Type 0
PlainOfTree = (o : Op) → plain_op (op_tree o) ≡ o
