-- What holds of events that have the words of a type or of an attribute.
use Rattle.std.specs.Prelude.{◌≡◌, ℕ, Bool, true, List, ◌∷◌}
use Rattle.plain_tree.specs.Types.{PlainType}
use Rattle.plain_tree.specs.Attrs.{PlainAttr, attr_tree}
use Rattle.rule_model.specs.Formed.{is_formed_type}
use Rattle.text_grammar.specs.declared.places.Place.TheVariants as places
use Rattle.text_events.specs.declared.event.Event.{Event}
use Rattle.text_types.specs.Spelling.{Spelling}
use Rattle.text_types.specs.Items.{Aliases, items}
use Rattle.term_table.specs.Terms.{Term}
use Rattle.text_types.specs.Plain.{term_of}
use Rattle.event_trees.specs.Wording.{Wording}
use Rattle.event_trees.specs.Attrs.{attr_of}
use Rattle.printed_words.specs.Words.{PrintedWord}
use Rattle.printed_types.specs.TypeWords.{type_words}
use Rattle.printed_attrs.specs.AttrWords.{attr_words}
use Rattle.printed_attrs.specs.Readable.{is_readable}
use Rattle.printed_terms.specs.Told.{Told}
use Rattle.printed_terms.specs.Ordered.{is_ordered, IsQuiet}

-- the events behind those that have the first words, where the terms are those behind with this one in front
pub record Behind (words : Spelling) (wording : Wording) (aliases : Aliases) (rest : List PrintedWord) (es : List Event) (term : Term) : Type 0 where
  pub behind : List Event
  pub told : Told words wording rest behind
  pub terms : items words aliases es ≡ term ∷ items words aliases behind

-- events that have the words of a type have its term
abbrev pub TypesAreTold : Type 0
TypesAreTold = (words : Spelling) (wording : Wording) (aliases : Aliases) (inside : Bool) (gap : List ℕ) (t : PlainType) (rest : List PrintedWord) (es : List Event) → is_formed_type t ≡ true
    → Told words wording (type_words inside places.IntegerWord gap t rest) es → Behind words wording aliases rest es (term_of t)

-- events that have the words of an attribute have a term of which the tree is this attribute, where its dictionaries are in order
abbrev pub AttrsAreTold : Type 0
AttrsAreTold = (words : Spelling) (wording : Wording) (aliases : Aliases) (gap : List ℕ) (a : PlainAttr) (rest : List PrintedWord) (es : List Event) → is_readable a ≡ true → is_ordered a ≡ true → IsQuiet rest
    → Told words wording (attr_words gap a rest) es → (term : Term) × Behind words wording aliases rest es term × (attr_of wording term ≡ attr_tree a)
