-- The successors in a module that a text reads as.
use Rattle.std.specs.Prelude.{◌≡◌, ℕ, Bool, true, false, List}
use Rattle.std.specs.List.{list_all}
use Rattle.tree_model.specs.declared.op_tree.ModuleTree.{ModuleTree}
use Rattle.plain_tree.specs.Ops.{Op, plain_module}
use Rattle.tree_reading.specs.Reading.{Reads}
use Rattle.scoped_trees.specs.Scoped.{is_scoped}

-- each successor of the operations in a function is a block of the region, and the function has no successor; whatever values are used
abbrev pub has_labels : Op → Bool
has_labels f = is_scoped (λ v. true) (λ l. false) f

abbrev pub ReadLabelsInScope : Type 0
ReadLabelsInScope = (text : List ℕ) (allowed : Bool) (A : ModuleTree) → Reads text allowed A → list_all has_labels (plain_module A).funcs ≡ true
