-- What the events of a printed module denote, where the definitions of its uses serve.
use Rattle.std.specs.Prelude.{◌≡◌, ℕ, Bool, true, not, ◌&&◌, List, [], ◌∷◌, ◌++◌, codes}
use Rattle.std.specs.List.{list_all}
use Rattle.text_grammar.specs.declared.places.Place.TheVariants as places
use Rattle.plain_tree.specs.Ops.{Op, op, PlainModule, module_tree}
use Rattle.text_events.specs.declared.event.Event.{Event}
use Rattle.text_types.specs.Spelling.{Spelling}
use Rattle.text_scopes.specs.declared.bodies.Class.{Class}
use Rattle.text_scopes.specs.declared.tables.Names.TheVariants as names
use Rattle.text_scopes.specs.Bodies.{is_module}
use Rattle.text_scopes.specs.Tables.{definitions}
use Rattle.event_trees.specs.Wording.{Wording}
use Rattle.event_trees.specs.Modules.{denoted}
use Rattle.event_trees.specs.Roles.{numbers_at, terms_at}
use Rattle.printed_modules.specs.ModuleWords.{own_names, module_words, is_known}
use Rattle.printed_terms.specs.Told.{Told}
use Rattle.printed_trees.specs.Numbering.{is_numbered, none_counted}
use Rattle.printed_trees.specs.Settled.{is_settled, is_settled_kind}
use Rattle.printed_trees.specs.Serving.{Serve, ServeLabels, Use, op_targets, op_uses}

-- the uses of functions in order, each by the names of its function
abbrev pub funcs_uses : List Op → List Use
funcs_uses [] = []
funcs_uses (f ∷ fs) = op_uses (own_names f) f (funcs_uses fs)

abbrev pub funcs_targets : List Op → List ℕ
funcs_targets [] = []
funcs_targets (f ∷ fs) = op_targets f (funcs_targets fs)

abbrev pub name_of : Op → List ℕ
name_of (op k results operands regions successors) = k.name

-- each name of an operation is what its text says
abbrev pub AreClasses : (List ℕ → Class) → Wording → (ℕ → Class) → List Event → Type 0
AreClasses classify wording class es = (name : ℕ) (front rest : List Event) → es ≡ front ++ (record { place = places.OpName; name = name } ∷ rest) → class name ≡ classify (wording.spelled name)

-- the dictionaries of the module and of its functions stand as reading leaves them
abbrev pub is_settled_module : PlainModule → Bool
is_settled_module m = is_settled_kind (record { name = codes "builtin.module"; props = m.props; attrs = m.attrs }) && list_all is_settled m.funcs

-- each function's values and labels are numbered in order
abbrev pub is_numbered_module : PlainModule → Bool
is_numbered_module m = list_all (is_numbered none_counted) m.funcs

-- the own number at each event
abbrev pub own_numbers : Spelling → Wording → (ℕ → Class) → List Event → List ℕ
own_numbers words wording class es = numbers_at wording class es (terms_at words es)

abbrev pub ModulesDenote : Type 0
ModulesDenote = (words : Spelling) (wording : Wording) (classify : List ℕ → Class) (class : ℕ → Class) (m : PlainModule) (es : List Event) → Told words wording (module_words m) es
    → AreClasses classify wording class es → is_module (classify (codes "builtin.module")) ≡ true → list_all (λ f. not (is_module (classify (name_of f)))) m.funcs ≡ true
    → is_known m ≡ true → is_settled_module m ≡ true → is_numbered_module m ≡ true
    → Serve (own_numbers words wording class es) (funcs_uses m.funcs) (definitions names.Values class es) → ServeLabels (own_numbers words wording class es) (funcs_targets m.funcs) (definitions names.Labels class es)
    → denoted words wording class es ≡ module_tree m
