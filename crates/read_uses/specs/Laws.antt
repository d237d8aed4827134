-- What is read has the finer form of a file.
use Rattle.std.specs.Prelude.{◌≡◌, ◌<◌, ℕ, Bool, true, false, List, [], length, drop, get_or, Some, is_some}
use Rattle.text_grammar.specs.declared.places.Place.TheVariants as places
use Rattle.text_events.specs.declared.event.Event.{Event}
use Rattle.term_table.specs.Terms.{Term, nothing}
use Rattle.text_types.specs.Spelling.{Spelling}
use Rattle.text_types.specs.Items.{Aliases, begins}
use Rattle.text_types.specs.Aliases.{is_nothing}
use Rattle.text_types.specs.Marks.{marked}
use Rattle.text_scopes.specs.declared.bodies.Class.{Class}
use Rattle.use_kinds.specs.Clashes.{index_of, place_from}
use Rattle.use_kinds.specs.Written.{no_operation, signature_behind, types_from}
use Rattle.event_trees.specs.Wording.{Wording}
use Rattle.event_trees.specs.Numbers.{first_of}
use Rattle.read_uses.specs.Moved.{Full, Moved}
use Rattle.tree_model.specs.declared.op_tree.ModuleTree.{ModuleTree}
use Rattle.tree_reading.specs.Reading.{Reads}
use Rattle.read_uses.specs.Texts.{IsRun}
use Rattle.line_grammar.specs.Grammar.{Reads as Written}
use Rattle.text_grammar.specs.declared.kinds.Kind.{Kind}
use Rattle.text_grammar.specs.declared.places.Place.{Place}
use Rattle.text_grammar.specs.Table.{generic}
use Rattle.text_grammar.specs.Text.{start}
use Rattle.text_forms.specs.Forms.{IsFile}
use Rattle.text_forms.specs.Laws.{Next}
use Rattle.begun_types.specs.Begun.{IsFunction}
use Rattle.read_uses.specs.Fine.{Body, File}

abbrev pub ReadsFinely : Type 0
ReadsFinely = (places : List Place) (kinds : List Kind) → Written generic start places kinds → File Next places []

-- each text that reads as a module is such moves
abbrev pub ReadsAsRun : Type 0
ReadsAsRun = (text : List ℕ) (allowed : Bool) (A : ModuleTree) → Reads text allowed A → IsRun text A

-- the index of a use is below the number of types that its definition has, where what begins at both is whole and the use has a type
abbrev pub IndexInRange : Type 0
IndexInRange = (sp : Spelling) (index : ℕ → ℕ) (aliases : Aliases) (words : Wording) (class : ℕ → Class) (all : List Event) (numbers : List ℕ) (types : List (List Term)) (x y : Full) (d : ℕ) → types ≡ types_from sp aliases no_operation (marked all)
    → Moved sp index aliases words class all numbers types places.UseName x y → first_of x.state.left.values ≡ Some d → is_some (place_from sp index aliases (marked all) (drop (length x.before) (marked all))) ≡ true
    → is_some (place_from sp index aliases (marked all) (drop d (marked all))) ≡ true → is_nothing (get_or (get_or types (length x.before) []) 0 nothing) ≡ false
    → index_of index (marked y.state.events) < length (get_or types d [])

-- behind the name of an operation its function type begins a term that is one, whatever stands between
abbrev pub FunctionBehind : Type 0
FunctionBehind = (sp : Spelling) (index : ℕ → ℕ) (aliases : Aliases) (words : Wording) (class : ℕ → Class) (all : List Event) (numbers : List ℕ) (types : List (List Term)) (x y : Full)
    → Body (λ p a b. Moved sp index aliases words class all numbers types p a b) x y → IsFunction (begins sp aliases (signature_behind (marked x.state.events) 0))

-- the finer form is a form
abbrev pub FinerForm : Type 0
FinerForm = (places behind : List Place) → File Next places behind → IsFile Next places behind
