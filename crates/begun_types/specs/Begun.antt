-- Function types of operations and types of block arguments, and the terms that begin at them.
use Rattle.std.specs.Prelude.{◌≡◌, ℕ, ◌&&◌, Bool, true, false, not, List, [], ◌∷◌, ◌++◌, drop, map}
use Rattle.line_grammar.specs.Grammar.{Reads}
use Rattle.text_grammar.specs.declared.kinds.Kind.{Kind}
use Rattle.text_grammar.specs.declared.parts.Part.TheVariants as parts
use Rattle.text_grammar.specs.Table.{generic, some}
use Rattle.text_grammar.specs.declared.places.Place.{Place}
use Rattle.text_grammar.specs.declared.places.Place.TheVariants as places
use Rattle.text_events.specs.declared.event.Event.{Event}
use Rattle.term_table.specs.declared.node.Form.{Form}
use Rattle.term_table.specs.declared.node.Form.TheVariants as forms
use Rattle.term_table.specs.Terms.{Term, nothing, node}
use Rattle.text_types.specs.Spelling.{Spelling}
use Rattle.text_types.specs.Items.{Aliases, begins}
use Rattle.text_types.specs.Aliases.{is_nothing, piece}
use Rattle.text_types.specs.Marks.{arrow_next, closed, marked}

-- What is asked of the words

-- where the grammar goes on though the type is refused
abbrev pub is_refused : Place → Bool
is_refused places.DottedType = true
is_refused places.UnsupportedTypeWord = true
is_refused places.UnsupportedInnerWord = true
is_refused places.RefusedLayout = true
is_refused _ = false

-- where a type is an alias
abbrev pub uses_alias : Place → Bool
uses_alias places.TypeAlias = true
uses_alias places.ElementAlias = true
uses_alias _ = false

-- no word stands for a type that is refused, and each alias of a type stands for something
abbrev pub AreServed : Aliases → List Event → Type 0
AreServed aliases [] = Unit {0}
AreServed aliases (e ∷ es) = (is_refused e.place ≡ false) × (uses_alias e.place ≡ true → is_nothing (aliases e.name) ≡ false) × AreServed aliases es

-- What begins

abbrev pub is_list : Form → Bool
is_list forms.Types = true
is_list _ = false

-- a list of types, each of which is something
abbrev pub are_types : Term → Bool
are_types nothing = true
are_types (node form value first more) = is_list form && (not (is_nothing first) && are_types more)

-- a function type, whose inputs are such a list
pub record IsFunction (t : Term) : Type 0 where
  pub inputs : Term
  pub results : Term
  pub is : t ≡ node forms.Func 0 inputs results
  pub typed : are_types inputs ≡ true

-- behind the name of an alias stands `=` and a type, and then the next operation or definition
pub record IsDefined (es : List Event) : Type 0 where
  pub equals : ℕ
  pub own : List Event
  pub behind : List Event
  pub kinds : List Kind
  pub is : es ≡ record { place = places.TypeAliasEquals; name = equals } ∷ (own ++ behind)
  pub reads : Reads generic (some parts.OneType ∷ []) (map (λ (e : Event). e.place) own) kinds
  -- no parenthesis of results is open there, no arrow stands there, and the definition ends there
  pub closed_is : closed behind ≡ []
  pub shut : arrow_next behind ≡ false
  pub ends : piece (marked behind) ≡ []

-- at the `(` of an operation's function type one begins; behind the colon of an argument a term does; an alias of a type is defined as one
abbrev pub BegunAt : Spelling → Aliases → Place → Event → List Event → Type 0
BegunAt words aliases places.SignatureOpen e es = IsFunction (begins words aliases (marked (e ∷ es)))
BegunAt words aliases places.ArgName e es = is_nothing (begins words aliases (drop 1 (marked es))) ≡ false
BegunAt words aliases places.TypeAliasName e es = IsDefined es
BegunAt words aliases _ e es = Unit {0}

-- at each of the events
abbrev pub AreBegun : Spelling → Aliases → List Event → Type 0
AreBegun words aliases [] = Unit {0}
AreBegun words aliases (e ∷ es) = BegunAt words aliases e.place e es × AreBegun words aliases es
