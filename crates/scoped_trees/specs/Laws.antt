-- In the words of a scoped module each use finds the definition of what is used.
use Rattle.std.specs.Prelude.{◌≡◌, ℕ, Bool, true, false, not, List, ◌∷◌, ◌++◌, codes}
use Rattle.std.specs.List.{list_all}
use Rattle.text_grammar.specs.declared.places.Place.{Place}
use Rattle.text_grammar.specs.declared.places.Place.TheVariants as places
use Rattle.plain_tree.specs.Ops.{PlainModule}
use Rattle.text_events.specs.declared.event.Event.{Event}
use Rattle.text_types.specs.Spelling.{Spelling}
use Rattle.text_scopes.specs.declared.bodies.Class.{Class}
use Rattle.text_scopes.specs.declared.tables.Names.TheVariants as names
use Rattle.text_scopes.specs.Bodies.{is_module}
use Rattle.text_scopes.specs.Tables.{definitions}
use Rattle.event_trees.specs.Wording.{Wording}
use Rattle.printed_modules.specs.ModuleWords.{is_known, module_words}
use Rattle.printed_terms.specs.Told.{Told}
use Rattle.printed_trees.specs.Laws.{AreClasses, funcs_targets, funcs_uses, is_numbered_module, name_of, own_numbers}
use Rattle.printed_trees.specs.Serving.{Serve, ServeLabels}
use Rattle.scoped_trees.specs.Scoped.{is_scoped_module}

-- where a value or a label has its name
abbrev pub is_naming : Place → Bool
is_naming places.ResultName = true
is_naming places.ArgName = true
is_naming places.UseName = true
is_naming places.BlockLabel = true
is_naming places.SuccessorName = true
is_naming _ = false

-- two such names that spell the same are one
abbrev pub NamesAgree : Wording → List Event → Type 0
NamesAgree wording es = (p q : Place) (a b : ℕ) (front rest other behind : List Event) → is_naming p ≡ true → is_naming q ≡ true
    → es ≡ front ++ (record { place = p; name = a } ∷ rest) → es ≡ other ++ (record { place = q; name = b } ∷ behind) → wording.spelled a ≡ wording.spelled b → a ≡ b

abbrev pub UsesAreServed : Type 0
UsesAreServed = (words : Spelling) (wording : Wording) (classify : List ℕ → Class) (class : ℕ → Class) (m : PlainModule) (es : List Event) → Told words wording (module_words m) es
    → AreClasses classify wording class es → is_module (classify (codes "builtin.module")) ≡ true → list_all (λ f. not (is_module (classify (name_of f)))) m.funcs ≡ true
    → NamesAgree wording es → is_known m ≡ true → is_numbered_module m ≡ true → is_scoped_module m ≡ true
    → Serve (own_numbers words wording class es) (funcs_uses m.funcs) (definitions names.Values class es) × ServeLabels (own_numbers words wording class es) (funcs_targets m.funcs) (definitions names.Labels class es)
