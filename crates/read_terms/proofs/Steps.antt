-- A state of reading types and attributes: what is known before the events that are left. It goes over to another by an event.
use Rattle.std.proofs.Common.{◌≡◌, ℕ, ◌<◌, ◌≤◌, Bool, true, false, List, [], ◌∷◌, None}
use Rattle.std.specs.Prelude.{if◌then◌else◌}
use Rattle.text_grammar.specs.declared.places.Place.{Place}
use Rattle.text_grammar.specs.declared.places.Place.TheVariants as places
use Rattle.text_events.specs.declared.event.Event.{Event}
use Rattle.text_events.specs.Language.{refused_at, sizes_behind}
use Rattle.text_types.specs.Spelling.{Spelling}
use Rattle.text_types.specs.Aliases.{after, is_start}
use Rattle.text_types.specs.Items.{Aliases, items}
use Rattle.text_types.specs.Marks.{marked_at}
use Rattle.text_forms.specs.Forms.{Run}
use Rattle.type_kinds.specs.Ranges.{Listed, is_minus, listed_at, number_width, out_at}
use Rattle.read_terms.proofs.Terms.{fine, is_integer}
use Rattle.read_terms.proofs.Actions.{Sound, all_fine}

pub record State : Type 0 where
  -- how many sizes the last memref has, and the numbers of the last array
  pub sizes : ℕ
  pub listed : Listed
  -- what aliases stand for in this operation or definition, and behind it
  pub env : Aliases
  pub later : Aliases
  -- the events that are left, with the places of function types
  pub events : List Event

abbrev pub env_behind : Place → State → Aliases
env_behind p x = if is_start p then x.later else x.env

module _ (words : Spelling) where
  -- each alias stands for what is fine
  abbrev pub EnvFine : Aliases → Type 0
  EnvFine env = (name : ℕ) → fine words.number (env name) ≡ true

  -- the terms of these events are fine, where aliases stand for what is
  abbrev pub FineAt : Aliases → List Event → Type 0
  FineAt env es = EnvFine env → all_fine words.number (items words env es)

module _ (words : Spelling) (final : Aliases) where
  -- one event, which is refused for nothing
  pub record Step (p : Place) (x y : State) : Type 0 where
    pub name : ℕ
    pub arrow : Bool
    pub inner : Bool
    pub event_is : x.events ≡ record { place = marked_at p arrow inner; name = name } ∷ y.events
    pub sizes_is : y.sizes ≡ sizes_behind x.sizes p
    pub few : x.sizes ≤ 8
    pub allowed : refused_at x.sizes p ≡ None
    pub sound : Sound words p name
    pub listed_is : y.listed ≡ record { width = listed_at words p name x.listed.width; minus = is_minus p }
    pub wide : 0 < x.listed.width
    pub inside : out_at words x.listed p name (number_width words final y.events) ≡ false
    pub integer : p ≡ places.ElementAlias → (is_integer (x.env name) ≡ true) × (final name ≡ x.env name)
    pub env_is : y.env ≡ env_behind p x
    pub later_is : y.later ≡ after words x.later (record { place = marked_at p arrow inner; name = name }) y.events

  -- events one by one, to the end
  pub record Runs (ps : List Place) (x : State) : Type 0 where
    pub last : State
    pub run : Run Step ps x last
    pub over : last.events ≡ []

  abbrev pub event_of : (p : Place) (x y : State) → Step p x y → Event
  event_of p x y m = record { place = marked_at p m.arrow m.inner; name = m.name }
