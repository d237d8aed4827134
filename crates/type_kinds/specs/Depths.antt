-- The depths of types and of attributes.
use Rattle.std.specs.Prelude.{ℕ, ◌+◌, ◌-◌, Bool, true, false, List, [], ◌∷◌, Option, nat_lt, length, max}
use Rattle.text_grammar.specs.declared.places.Place.{Place}
use Rattle.text_grammar.specs.declared.places.Place.TheVariants as places
use Rattle.text_events.specs.declared.event.Event.{Event}
use Rattle.text_types.specs.Items.{place_next}
use Rattle.type_kinds.specs.declared.begins.Begin.{Begin}
use Rattle.type_kinds.specs.declared.begins.Begin.TheVariants as begin
use Rattle.type_kinds.specs.Begins.{begin_at}
use Rattle.type_kinds.specs.Sizes.{Sizes, no_sizes, moved}
use Rattle.type_kinds.specs.First.{first_in}

-- how deep a type or an attribute may be
abbrev pub most_depth : ℕ
most_depth = 16

-- Types. For each type that is open, the innermost first: whether it is a function type that ends with the next type.

-- behind the end of a type: the function types end of which it is the result
abbrev pub ended : List Bool → List Bool
ended [] = []
ended (true ∷ outer) = ended outer
ended (false ∷ outer) = false ∷ outer

-- behind a sign that closes a type
abbrev pub closed : List Bool → List Bool
closed [] = []
closed (b ∷ outer) = ended outer

-- the innermost type ends with the next one, or doesn't
abbrev pub waiting : Bool → List Bool → List Bool
waiting waits [] = []
waiting waits (b ∷ outer) = waits ∷ outer

-- the types that are open behind a place
abbrev pub open_behind : Place → List Bool → List Bool
open_behind places.IntegerWord outer = ended outer
open_behind places.ElementWord outer = ended outer
open_behind places.TypeAlias outer = ended outer
open_behind places.ElementAlias outer = ended outer
open_behind places.LlvmPlain outer = ended outer
open_behind places.InnerPlain outer = ended outer
open_behind places.LlvmStruct outer = false ∷ outer
open_behind places.InnerStruct outer = false ∷ outer
open_behind places.LlvmArray outer = false ∷ outer
open_behind places.InnerArray outer = false ∷ outer
open_behind places.LlvmFunction outer = false ∷ outer
open_behind places.InnerFunction outer = false ∷ outer
open_behind places.MemrefWord outer = false ∷ outer
open_behind places.FunctionOpen outer = false ∷ outer
open_behind places.StructGreater outer = closed outer
open_behind places.ArrayGreater outer = closed outer
open_behind places.LlvmFunctionGreater outer = closed outer
open_behind places.MemrefGreater outer = closed outer
open_behind places.FunctionArrow outer = waiting true outer
open_behind places.ResultsOpen outer = waiting false outer
open_behind places.ResultsClose outer = closed outer
open_behind _ outer = outer

pub record TypesOpen : Type 0 where
  pub sizes : Sizes
  pub outer : List Bool

-- the depth of the type that begins, 0 for none
abbrev pub type_depth : Begin → ℕ → ℕ → ℕ
type_depth begin.Type outer size = outer + 1
type_depth begin.TypeAlias outer size = outer + size
type_depth _ outer size = 0

abbrev pub type_depth_at : TypesOpen → Event → List Event → ℕ
type_depth_at s e behind = type_depth (begin_at e.place s.sizes.minus (place_next behind)) (length s.outer) (s.sizes.sizes e.name)

abbrev pub pass_type : TypesOpen → Event → List Event → TypesOpen
pass_type s e behind = record { sizes = moved s.sizes e (max s.sizes.amount (type_depth_at s e behind)); outer = open_behind e.place s.outer }

abbrev pub is_deep_type : TypesOpen → Event → List Event → Bool
is_deep_type s e behind = nat_lt most_depth (type_depth_at s e behind)

-- the first type that passes the limit
abbrev pub first_deep_type : List Event → Option ℕ
first_deep_type events = first_in pass_type is_deep_type (record { sizes = no_sizes; outer = [] }) events

-- Attributes. A list or dictionary is open until it closes.

-- how many are open behind a place
abbrev pub lists_behind : Place → ℕ → ℕ
lists_behind places.ItemsOpen outer = outer + 1
lists_behind places.AttrDictOpen outer = outer + 1
lists_behind places.ItemsClose outer = outer - 1
lists_behind places.AttrDictClose outer = outer - 1
lists_behind _ outer = outer

pub record ListsOpen : Type 0 where
  pub sizes : Sizes
  pub outer : ℕ

-- the depth of the attribute that begins, 0 for none
abbrev pub attr_depth : Begin → ℕ → ℕ → ℕ
attr_depth begin.Nothing outer size = 0
attr_depth begin.AttrAlias outer size = outer + size
attr_depth _ outer size = outer + 1

abbrev pub attr_depth_at : ListsOpen → Event → List Event → ℕ
attr_depth_at s e behind = attr_depth (begin_at e.place s.sizes.minus (place_next behind)) s.outer (s.sizes.sizes e.name)

abbrev pub pass_attr : ListsOpen → Event → List Event → ListsOpen
pass_attr s e behind = record { sizes = moved s.sizes e (max s.sizes.amount (attr_depth_at s e behind)); outer = lists_behind e.place s.outer }

abbrev pub is_deep_attr : ListsOpen → Event → List Event → Bool
is_deep_attr s e behind = nat_lt most_depth (attr_depth_at s e behind)

-- the first attribute that passes the limit
abbrev pub first_deep_attr : List Event → Option ℕ
first_deep_attr events = first_in pass_attr is_deep_attr (record { sizes = no_sizes; outer = 0 }) events
