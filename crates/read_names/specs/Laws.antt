-- The names of operations that are read.
use Rattle.std.specs.Prelude.{◌≡◌, ℕ, Bool, true, false, not, List, [], ◌∷◌}
use Rattle.std.specs.List.{list_all}
use Rattle.text_grammar.specs.declared.places.Place.TheVariants as places
use Rattle.tree_model.specs.declared.op_tree.ModuleTree.{ModuleTree}
use Rattle.plain_tree.specs.Ops.{plain_module}
use Rattle.text_events.specs.declared.event.Event.{Event}
use Rattle.text_types.specs.Spelling.{Spelling}
use Rattle.text_scopes.specs.declared.bodies.Class.{Class}
use Rattle.text_kinds.specs.Classes.{is_unknown}
use Rattle.event_trees.specs.Wording.{Wording}
use Rattle.event_trees.specs.Modules.{denoted}
use Rattle.text_refusals.specs.Classes.{operation_class}
use Rattle.tree_reading.specs.Reading.{Reads}
use Rattle.read_names.specs.Passing.{op_passes}

-- of each name of an operation in events
abbrev pub OfNames : (ℕ → Type 0) → List Event → Type 0
OfNames Q [] = Unit {0}
OfNames Q (e ∷ es) = (e.place ≡ places.OpName → Q e.name) × OfNames Q es

-- what passes at the names passes at the operations of the module
abbrev pub NamesAreKept : Type 0
NamesAreKept = (words : Spelling) (wording : Wording) (class : ℕ → Class) (es : List Event) (test : List ℕ → Bool) → OfNames (λ name. test (wording.spelled name) ≡ true) es
    → list_all (op_passes test) (plain_module (denoted words wording class es)).funcs ≡ true

-- a name of the table, of a function or of a module
abbrev pub is_registered : List ℕ → Bool
is_registered name = not (is_unknown (operation_class name))

abbrev pub ReadIsRegistered : Type 0
ReadIsRegistered = (text : List ℕ) (A : ModuleTree) → Reads text false A → list_all (op_passes is_registered) (plain_module A).funcs ≡ true
