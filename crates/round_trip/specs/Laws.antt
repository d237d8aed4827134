-- What the text denotes that a module prints as, and what of a module holds that a text denotes.
use Rattle.std.specs.Prelude.{◌≡◌, ℕ, Bool, true, not, List}
use Rattle.std.specs.List.{list_all}
use Rattle.tree_model.specs.declared.op_tree.ModuleTree.{ModuleTree}
use Rattle.plain_tree.specs.Ops.{PlainModule, module_tree, plain_module}
use Rattle.text_model.specs.Printed.{module_text}
use Rattle.text_grammar.specs.declared.words.Word.{Word}
use Rattle.text_events.specs.declared.event.Event.{Event}
use Rattle.text_events.specs.Names.{names_of}
use Rattle.text_events.specs.Source.{events_of}
use Rattle.text_scopes.specs.declared.bodies.Class.{Class}
use Rattle.text_scopes.specs.declared.tables.Names.TheVariants as names
use Rattle.text_scopes.specs.Bodies.{class_in, is_module}
use Rattle.text_scopes.specs.Tables.{definitions}
use Rattle.event_trees.specs.Wording.{wording_of}
use Rattle.text_refusals.specs.Classes.{classes_of, operation_class}
use Rattle.text_refusals.specs.Spelling.{spelling_of}
use Rattle.tree_reading.specs.Reading.{Denotes, Reads}
use Rattle.printed_words.specs.Words.{words_from}
use Rattle.printed_attrs.specs.Readable.{are_bytes}
use Rattle.spelled_reading.specs.Bytes.{is_module_in_bytes}
use Rattle.printed_modules.specs.ModuleWords.{is_known, module_words, places_of}
use Rattle.printed_trees.specs.Laws.{funcs_targets, funcs_uses, is_numbered_module, is_settled_module, name_of, own_numbers}
use Rattle.printed_trees.specs.Serving.{Serve, ServeLabels}
use Rattle.scoped_trees.specs.Scoped.{is_scoped_module}

-- the text of a module, its words, what its operations are, and its events
abbrev pub text_of_module : PlainModule → List ℕ
text_of_module m = module_text (module_tree m)

abbrev pub words_of_module : PlainModule → List Word
words_of_module m = words_from 0 (module_words m)

abbrev pub class_of_module : PlainModule → ℕ → Class
class_of_module m = class_in (classes_of (text_of_module m) (words_of_module m))

abbrev pub events_of_module : PlainModule → List Event
events_of_module m = events_of (places_of m) (names_of (text_of_module m) (words_of_module m))

-- the numbers at its definitions
abbrev pub numbers_of_module : PlainModule → List ℕ
numbers_of_module m = own_numbers (spelling_of (text_of_module m) (words_of_module m)) (wording_of (text_of_module m) (words_of_module m)) (class_of_module m) (events_of_module m)

-- no function is a module
abbrev pub are_no_modules : PlainModule → Bool
are_no_modules m = list_all (λ f. not (is_module (operation_class (name_of f)))) m.funcs

-- The text of a module denotes the module, where its names are known, its dictionaries settled, its values and labels numbered in order, and in its text each use finds the definition of the value or the label that is used.
abbrev pub PrintedTextDenotes : Type 0
PrintedTextDenotes = (m : PlainModule) → is_known m ≡ true → is_settled_module m ≡ true → is_numbered_module m ≡ true → are_no_modules m ≡ true
    → Serve (numbers_of_module m) (funcs_uses m.funcs) (definitions names.Values (class_of_module m) (events_of_module m))
    → ServeLabels (numbers_of_module m) (funcs_targets m.funcs) (definitions names.Labels (class_of_module m) (events_of_module m))
    → Denotes (text_of_module m) (module_tree m)

-- where the uses are in scope each finds its definition
abbrev pub ScopedTextDenotes : Type 0
ScopedTextDenotes = (m : PlainModule) → is_known m ≡ true → is_settled_module m ≡ true → is_numbered_module m ≡ true → are_no_modules m ≡ true → is_scoped_module m ≡ true → Denotes (text_of_module m) (module_tree m)

-- a module that a text reads as is settled
abbrev pub ReadsSettled : Type 0
ReadsSettled = (text : List ℕ) (allowed : Bool) (A : ModuleTree) → Reads text allowed A → is_settled_module (plain_module A) ≡ true

-- and where the text is of bytes, its names and strings are
abbrev pub ReadsInBytes : Type 0
ReadsInBytes = (text : List ℕ) (allowed : Bool) (A : ModuleTree) → are_bytes text ≡ true → Reads text allowed A → is_module_in_bytes (plain_module A) ≡ true
