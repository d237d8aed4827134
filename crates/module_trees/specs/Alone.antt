-- Whether the operations of a file are a module alone.
use Rattle.std.specs.Prelude.{Bool, false, List, [], ◌∷◌}
use Rattle.tree_model.specs.declared.op_tree.OpTree.{OpTree}
use Rattle.event_trees.specs.Modules.{is_module}

abbrev pub is_alone : List OpTree → Bool
is_alone (o ∷ []) = is_module o
is_alone _ = false
