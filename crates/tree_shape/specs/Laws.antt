-- Sameness of functions is an equivalence.
use Rattle.tree_model.specs.declared.op_tree.FuncTree.{FuncTree}
use Rattle.tree_shape.specs.Same.{Same}

abbrev pub IsReflexive : Type 0
IsReflexive = (a : FuncTree) → Same a a

abbrev pub IsSymmetric : Type 0
IsSymmetric = (a b : FuncTree) → Same a b → Same b a

abbrev pub IsTransitive : Type 0
IsTransitive = (a b c : FuncTree) → Same a b → Same b c → Same a c
