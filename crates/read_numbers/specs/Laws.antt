-- The numbers of the values and labels of a module that a text reads as.
use Rattle.std.specs.Prelude.{◌≡◌, ℕ, Bool, true, List}
use Rattle.std.specs.List.{list_all}
use Rattle.tree_model.specs.declared.op_tree.ModuleTree.{ModuleTree}
use Rattle.plain_tree.specs.Ops.{plain_module}
use Rattle.first_places.specs.Numbering.{is_numbered_once}
use Rattle.tree_reading.specs.Reading.{Reads}
use Rattle.read_states.specs.Numbering.{is_numbered, none_counted}

-- in each function they are counted from 0 on, in the order of the text
abbrev pub ReadInOrder : Type 0
ReadInOrder = (text : List ℕ) (allowed : Bool) (A : ModuleTree) → Reads text allowed A → list_all (is_numbered none_counted) (plain_module A).funcs ≡ true

-- no number of a value and no label stands twice in a function
abbrev pub ReadOnce : Type 0
ReadOnce = (text : List ℕ) (allowed : Bool) (A : ModuleTree) → Reads text allowed A → list_all is_numbered_once (plain_module A).funcs ≡ true
