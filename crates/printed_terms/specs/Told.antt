-- Events that have printed words: each stands at the place of its word, and its name says what the word's own bytes say.
use Rattle.std.specs.Prelude.{◌≡◌, ℕ, ◌%◌, ◌^◌, ◌||◌, Bool, List, [], ◌∷◌, drop, codes, Option, Some, None, ⊤, if◌then◌else◌}
use Rattle.std.specs.Str.{bytes_eq}
use Rattle.text_grammar.specs.declared.kinds.Kind.{Kind}
use Rattle.text_grammar.specs.declared.places.Place.{Place}
use Rattle.text_grammar.specs.declared.places.Place.TheVariants as places
use Rattle.text_events.specs.declared.event.Event.{Event}
use Rattle.text_events.specs.Source.{capped_value, number_in}
use Rattle.text_events.specs.Spelling.{core, unescaped}
use Rattle.text_types.specs.Spelling.{Spelling}
use Rattle.event_trees.specs.Wording.{Wording}
use Rattle.printed_words.specs.Words.{PrintedWord}

-- What a word says by its bytes

-- the width of an integer type, none for `index`
abbrev pub width_in : List ℕ → Option ℕ
width_in bytes = if bytes_eq bytes (codes "index") then None else Some (capped_value 10 (drop 1 bytes) % 2 ^ 32)

-- the size of a dimension, none for `?`
abbrev pub size_in : List ℕ → Option ℕ
size_in bytes = if bytes_eq bytes (codes "?") then None else Some (capped_value 10 bytes)

-- the index of a use behind its `#`
abbrev pub index_in : List ℕ → ℕ
index_in bytes = capped_value 10 (drop 1 bytes)

abbrev pub is_void_in : List ℕ → Bool
is_void_in bytes = bytes_eq bytes (codes "void") || bytes_eq bytes (codes "!llvm.void")

-- what a word spells
abbrev pub spells : Kind → List ℕ → List ℕ
spells kind bytes = unescaped (core kind bytes)

-- the name says what the word says, as far as the place asks for it
abbrev pub Says : Spelling → Wording → Place → Kind → List ℕ → ℕ → Type 0
Says words wording places.IntegerWord kind bytes name = words.width name ≡ width_in bytes
Says words wording places.ElementWord kind bytes name = words.width name ≡ width_in bytes
Says words wording places.NumbersWidth kind bytes name = words.width name ≡ width_in bytes
Says words wording places.LlvmPlain kind bytes name = words.is_void name ≡ is_void_in bytes
Says words wording places.InnerPlain kind bytes name = words.is_void name ≡ is_void_in bytes
Says words wording places.ArrayNumber kind bytes name = words.number name ≡ number_in bytes
Says words wording places.DimensionSize kind bytes name = words.size name ≡ size_in bytes
Says words wording places.IntegerNumber kind bytes name = wording.number name ≡ number_in bytes
Says words wording places.ListedNumber kind bytes name = wording.number name ≡ number_in bytes
Says words wording places.TextAttr kind bytes name = wording.spelled name ≡ spells kind bytes
Says words wording places.Symbol kind bytes name = wording.spelled name ≡ spells kind bytes
Says words wording places.BoolWord kind bytes name = wording.spelled name ≡ spells kind bytes
Says words wording places.EntryName kind bytes name = wording.spelled name ≡ spells kind bytes
Says words wording places.DialectName kind bytes name = wording.spelled name ≡ spells kind bytes
Says words wording places.DialectWord kind bytes name = wording.spelled name ≡ spells kind bytes
Says words wording places.OpName kind bytes name = wording.spelled name ≡ spells kind bytes
Says words wording places.ResultName kind bytes name = wording.spelled name ≡ spells kind bytes
Says words wording places.UseName kind bytes name = wording.spelled name ≡ spells kind bytes
Says words wording places.ArgName kind bytes name = wording.spelled name ≡ spells kind bytes
Says words wording places.BlockLabel kind bytes name = wording.spelled name ≡ spells kind bytes
Says words wording places.SuccessorName kind bytes name = wording.spelled name ≡ spells kind bytes
Says words wording places.ResultNumber kind bytes name = words.number name ≡ number_in bytes
Says words wording places.UseNumber kind bytes name = wording.index name ≡ index_in bytes
Says words wording _ kind bytes name = ⊤

-- events that have these words
pub data Told (words : Spelling) (wording : Wording) : List PrintedWord → List Event → Type 0 where
  no_words : Told words wording [] []
  one_more : (w : PrintedWord) (name : ℕ) {ws : List PrintedWord} {es : List Event} → Says words wording w.place w.kind w.bytes name → Told words wording ws es → Told words wording (w ∷ ws) (record { place = w.place; name = name } ∷ es)
