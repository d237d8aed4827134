-- What the operations of a text are, by their names.
use Rattle.std.specs.Prelude.{ℕ, Bool, true, false, List, map, codes, ◌||◌, if◌then◌else◌}
use Rattle.std.specs.Str.{bytes_eq}
use Rattle.text_grammar.specs.declared.kinds.Kind.{Kind}
use Rattle.text_grammar.specs.declared.kinds.Kind.TheVariants.{Text}
use Rattle.text_grammar.specs.declared.words.Word.{Word}
use Rattle.text_events.specs.Spelling.{spelled}
use Rattle.text_scopes.specs.declared.bodies.Class.{Class}
use Rattle.text_scopes.specs.declared.bodies.Class.TheVariants.{Module, Function, Known, Unknown}
use Rattle.op_catalog.specs.Table.{place_of}
use Rattle.std.specs.Prelude.{is_some}

-- what an operation of this name is
unfoldable pub operation_class : List ℕ → Class
operation_class name =
    if bytes_eq name (codes "builtin.module") then Module else
    if bytes_eq name (codes "func.func") || bytes_eq name (codes "llvm.func") then Function else
    if is_some (place_of name) then Known else Unknown

-- names of operations are strings
abbrev pub is_text : Kind → Bool
is_text Text = true
is_text _ = false

abbrev pub word_class : List ℕ → Word → Class
word_class text w = if is_text w.kind then operation_class (spelled text w) else Unknown

-- what each word is, where it names an operation
abbrev pub classes_of : List ℕ → List Word → List Class
classes_of text words = map (word_class text) words
