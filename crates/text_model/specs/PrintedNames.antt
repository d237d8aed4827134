-- The names of a function's values and blocks: counts over its places.
use Rattle.std.specs.Prelude.{ℕ, ◌==◌, Bool, true, false, List, [], ◌∷◌, Option, Some, None, option_map, option_and_then, if◌then◌else◌, flat_map, find, position, count_by}
use Rattle.std.specs.List.{list_any}
use Rattle.tree_model.specs.declared.type_tree.TypeTree.{TypeTree}
use Rattle.tree_model.specs.declared.op_tree.OpTree.{OpTree}
use Rattle.text_model.specs.declared.value_name.ValueName.{ValueName}
use Rattle.text_model.specs.declared.value_name.ValueName.TheVariants.{Argument, Single, Part}
use Rattle.text_model.specs.PrintedPlaces.{Place, argument_at, single_at, group_at, successor_at, block_at, places_of_op}

-- the values that a place defines
abbrev pub values_at : Place → List (ℕ × TypeTree)
values_at (argument_at v) = v ∷ []
values_at (single_at v) = v ∷ []
values_at (group_at vs) = vs
values_at (successor_at label) = []
values_at (block_at n label) = []

-- whether a place defines the value
abbrev pub defines : ℕ → Place → Bool
defines value p = list_any (λ v. v.0 == value) (values_at p)

-- the places before the first one that defines the value
abbrev pub places_before : ℕ → List Place → List Place
places_before value [] = []
places_before value (p ∷ ps) = if defines value p then [] else p ∷ places_before value ps

-- whether a place takes one of the numbers of `%arg0`, `%arg1`, ..
abbrev pub is_argument : Place → Bool
is_argument (argument_at v) = true
is_argument (single_at v) = false
is_argument (group_at vs) = false
is_argument (successor_at label) = false
is_argument (block_at n label) = false

-- whether a place takes one of the numbers of `%0`, `%1`, ..
abbrev pub is_other : Place → Bool
is_other (argument_at v) = false
is_other (single_at v) = true
is_other (group_at vs) = true
is_other (successor_at label) = false
is_other (block_at n label) = false

-- the name of a value that a place defines: its number is how many places of its kind stand before
abbrev pub name_at : ℕ → List Place → Place → Option ValueName
name_at value before (argument_at v) = Some (Argument (count_by is_argument before))
name_at value before (single_at v) = Some (Single (count_by is_other before))
name_at value before (group_at vs) = option_map (Part (count_by is_other before)) (position (λ v. v.0 == value) vs)
name_at value before (successor_at label) = None
name_at value before (block_at n label) = None

-- the name of a value, by the first place that defines it
abbrev pub value_name : List Place → ℕ → Option ValueName
value_name places value = option_and_then (name_at value (places_before value places)) (find (defines value) places)

-- the type of a value, where it is first defined
abbrev pub defined_type : List Place → ℕ → Option TypeTree
defined_type places value = option_map (λ v. v.1) (find (λ v. v.0 == value) (flat_map values_at places))

-- the block that stands at a place, with its label and its position
abbrev pub blocks_at : Place → List (ℕ × ℕ)
blocks_at (block_at n label) = (label, n) ∷ []
blocks_at (argument_at v) = []
blocks_at (single_at v) = []
blocks_at (group_at vs) = []
blocks_at (successor_at label) = []

-- the position of the block with a label among the blocks of its region
abbrev pub label_position : List Place → ℕ → Option ℕ
label_position places label = option_map (λ b. b.1) (find (λ b. b.0 == label) (flat_map blocks_at places))

-- whether a place names the label as a successor
abbrev pub names_label : ℕ → Place → Bool
names_label label (successor_at other) = other == label
names_label label (argument_at v) = false
names_label label (single_at v) = false
names_label label (group_at vs) = false
names_label label (block_at n other) = false

-- what the text of a function looks up: the name and the type of a value, the position of the block
-- with a label, and whether an operation names a label as a successor
pub record Names : Type 0 where
  pub name : ℕ → Option ValueName
  pub type_of : ℕ → Option TypeTree
  pub position : ℕ → Option ℕ
  pub is_target : ℕ → Bool

-- the names by places
abbrev pub names_along : List Place → Names
names_along places = record {
  name = value_name places;
  type_of = defined_type places;
  position = label_position places;
  is_target = λ label. list_any (names_label label) places;
}

-- the names of a function, by the operation that defines it
abbrev pub names_of : OpTree → Names
names_of op = names_along (places_of_op op)
