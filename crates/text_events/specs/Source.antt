-- What names spell, by their numbers, and the events of a text.
use Rattle.std.specs.Prelude.{ℕ, ◌+◌, ◌-◌, ◌^◌, ◌%◌, ◌==◌, ◌&&◌, ◌||◌, Bool, true, false, List, [], ◌∷◌, drop, slice_get, codes, nat_le, Option, Some, None, if◌then◌else◌}
use Rattle.std.specs.Str.{bytes_eq}
use Rattle.text_grammar.specs.declared.words.Word.{Word}
use Rattle.text_grammar.specs.TokenKinds.{value_from}
use Rattle.text_events.specs.declared.event.Event.{Event}
use Rattle.text_grammar.specs.declared.places.Place.{Place}
use Rattle.text_grammar.specs.declared.places.Place.TheVariants as places
use Rattle.text_events.specs.Spelling.{piece, spelled}

-- the word that has this number as its name
abbrev pub word_of : List Word → ℕ → Option Word
word_of words name = slice_get words name

abbrev pub piece_or : List ℕ → Option Word → List ℕ
piece_or text None = []
piece_or text (Some w) = piece text w

-- its bytes, none where there is no such word
abbrev pub bytes_of : List ℕ → List Word → ℕ → List ℕ
bytes_of text words name = piece_or text (word_of words name)

-- the value of digits, which counts as 2^128 - 1 where it is greater
abbrev pub capped_value : ℕ → List ℕ → ℕ
capped_value base digits = if nat_le (2 ^ 128) (value_from base 0 digits) then 2 ^ 128 - 1 else value_from base 0 digits

abbrev pub is_hexadecimal : List ℕ → Bool
is_hexadecimal [] = false
is_hexadecimal (a ∷ []) = false
is_hexadecimal (a ∷ b ∷ digits) = (a == 48) && (b == 120)

-- the value of a number, with `0x` before it where it is hexadecimal
abbrev pub number_in : List ℕ → ℕ
number_in bytes = if is_hexadecimal bytes then capped_value 16 (drop 2 bytes) else capped_value 10 bytes

-- the value of the number with this name
unfoldable pub number_of : List ℕ → List Word → ℕ → ℕ
number_of text words name = number_in (bytes_of text words name)

-- the value behind `#`
unfoldable pub index_of : List ℕ → List Word → ℕ → ℕ
index_of text words name = capped_value 10 (drop 1 (bytes_of text words name))

-- the size of a dimension, none for `?`
unfoldable pub size_of : List ℕ → List Word → ℕ → Option ℕ
size_of text words name = if bytes_eq (bytes_of text words name) (codes "?") then None else Some (capped_value 10 (bytes_of text words name))

-- the width of an integer type, none for `index`
unfoldable pub width_of : List ℕ → List Word → ℕ → Option ℕ
width_of text words name =
    if bytes_eq (bytes_of text words name) (codes "index") then None else Some (capped_value 10 (drop 1 (bytes_of text words name)) % 2 ^ 32)

-- whether a plain type of the llvm dialect is `void`
unfoldable pub is_void : List ℕ → List Word → ℕ → Bool
is_void text words name = bytes_eq (bytes_of text words name) (codes "void") || bytes_eq (bytes_of text words name) (codes "!llvm.void")

abbrev pub spelled_or : List ℕ → Option Word → List ℕ
spelled_or text None = []
spelled_or text (Some w) = spelled text w

-- what the name spells, with what stands for each escape
abbrev pub spelled_of : List ℕ → List Word → ℕ → List ℕ
spelled_of text words name = spelled_or text (word_of words name)

-- Events

-- Whether the word at the place is read by itself: the name of an operation, a number, and a type that is one word.
-- A string or a symbol before it may spell the same, but is no such word: `"42"` is no number.
abbrev pub is_own : Place → Bool
is_own places.OpName = true
is_own places.ResultNumber = true
is_own places.UseNumber = true
is_own places.IntegerWord = true
is_own places.ElementWord = true
is_own places.NumbersWidth = true
is_own places.LlvmPlain = true
is_own places.InnerPlain = true
is_own places.ArrayNumber = true
is_own places.DimensionSize = true
is_own places.IntegerNumber = true
is_own places.ListedNumber = true
is_own _ = false

-- the event of a word: its name is the word's own number where it is read by itself, and else that of the first word that spells the same
abbrev pub event_at : Place → ℕ → ℕ → Event
event_at place own name = record { place = place; name = if is_own place then own else name }

-- each place, from that of a word on, with its name
abbrev pub events_from : ℕ → List Place → List ℕ → List Event
events_from own [] names = []
events_from own (p ∷ ps) [] = []
events_from own (p ∷ ps) (n ∷ names) = event_at p own n ∷ events_from (own + 1) ps names

-- the events of a text, by the places of its words and the numbers of what they spell
abbrev pub events_of : List Place → List ℕ → List Event
events_of places names = events_from 0 places names
