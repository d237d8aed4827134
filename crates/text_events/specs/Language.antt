-- The language of the generic text: its grammar over words with their names, and where looking ends though the grammar goes on.
use Rattle.std.specs.Prelude.{ℕ, ◌+◌, Bool, true, false, not, List, [], ◌∷◌, ◌&&◌, nat_le, nat_lt, Option, Some, None, is_some, if◌then◌else◌}
use Rattle.line_grammar.specs.Language.{Event, Language}
use Rattle.text_grammar.specs.declared.kinds.Kind.{Kind}
use Rattle.text_grammar.specs.declared.places.Place.{Place}
use Rattle.text_grammar.specs.declared.places.Place.TheVariants as places
use Rattle.text_grammar.specs.declared.parts.Part.{Part}
use Rattle.text_grammar.specs.declared.words.Word.{Word}
use Rattle.text_grammar.specs.Table.{generic}
use Rattle.text_grammar.specs.Text.{start}
use Rattle.text_events.specs.Aliases.{Aliases, no_aliases, aliases_behind, alias_fault}
use Rattle.text_events.specs.declared.ending.EndKind.{EndKind}
use Rattle.text_events.specs.declared.ending.EndKind.TheVariants.{UnsupportedType, UnsupportedAttr, LongNumber}

-- a word with the number of its name
pub record Named : Type 0 where
  pub word : Word
  pub name : ℕ

-- each word with its name
abbrev pub named : List Word → List ℕ → List Named
named [] names = []
named (w ∷ ws) [] = []
named (w ∷ ws) (n ∷ names) = record { word = w; name = n } ∷ named ws names

-- how many dimensions the last memref has so far, counted up to 8
abbrev pub sizes_behind : ℕ → Place → ℕ
sizes_behind sizes places.MemrefWord = 0
sizes_behind sizes places.DimensionSize = if nat_lt sizes 8 then sizes + 1 else sizes
sizes_behind sizes _ = sizes

abbrev pub if_ninth : Bool → Option EndKind
if_ninth true = Some UnsupportedType
if_ninth false = None

-- what is refused at a place: a ninth dimension, and each place of the grammar that stands for other spellings of MLIR
abbrev pub refused_at : ℕ → Place → Option EndKind
refused_at sizes places.DimensionSize = if_ninth (nat_le 8 sizes)
refused_at sizes places.DottedType = Some UnsupportedType
refused_at sizes places.UnsupportedTypeWord = Some UnsupportedType
refused_at sizes places.UnsupportedInnerWord = Some UnsupportedType
refused_at sizes places.UnsupportedAttrWord = Some UnsupportedAttr
refused_at sizes places.UnsupportedAliasWord = Some UnsupportedAttr
refused_at sizes places.RefusedLayout = Some UnsupportedType
refused_at sizes places.RefusedColons = Some UnsupportedAttr
refused_at sizes _ = None

-- `#` and digits are the name of an alias at these places, and no number
abbrev pub is_alias_name : Place → Bool
is_alias_name places.AttrAliasName = true
is_alias_name places.AttrAlias = true
is_alias_name places.LocAlias = true
is_alias_name _ = false

-- a number above 2^128 - 1
abbrev pub long_at : Place → Word → Option EndKind
long_at place word = if word.long && not (is_alias_name place) then Some LongNumber else None

-- the first of the two
abbrev pub first_some : {X : Type 0} → Option X → Option X → Option X
first_some (Some x) o = Some x
first_some None o = o

-- what is kept of the words before
pub record Before : Type 0 where
  pub sizes : ℕ
  pub aliases : Aliases

abbrev pub step : Before → Event Place Named → Before
step b e = record { sizes = sizes_behind b.sizes e.0; aliases = aliases_behind b.aliases e.0 e.1.name }

-- why looking ends at an event, if it does: a refusal, an alias that does not serve, or a long number
abbrev pub ends_at : Before → Event Place Named → Option EndKind
ends_at b e = first_some (refused_at b.sizes e.0) (first_some (alias_fault b.aliases.known e.0 e.1.name) (long_at e.0 e.1.word))

abbrev pub stands : Before → Event Place Named → Bool
stands b e = is_some (ends_at b e)

abbrev pub nothing_before : Before
nothing_before = record { sizes = 0; aliases = no_aliases }

abbrev pub generic_text : Language Place Part Kind Named Before
generic_text = record {
  grammar = generic;
  start = start;
  kind = λ w. w.word.kind;
  first = nothing_before;
  step = step;
  stands = stands;
}
