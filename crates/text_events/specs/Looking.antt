-- Where looking at a text ends, and why.
use Rattle.std.specs.Prelude.{ℕ, suc, ◌+◌, ◌-◌, ◌&&◌, Bool, true, false, List, [], ◌∷◌, ◌++◌, length, take, drop, slice_get, Option, Some, None, ⊤, if◌then◌else◌}
use Rattle.mlir_lex.specs.declared.LexFault.{LexFault}
use Rattle.mlir_lex.specs.declared.LexKind.{LexKind}
use Rattle.mlir_lex.specs.declared.LexKind.TheVariants as lexical
use Rattle.line_grammar.specs.Language.{Event, or_end, ReadsText, EndsText}
use Rattle.text_grammar.specs.declared.kinds.Kind.{Kind}
use Rattle.text_grammar.specs.declared.kinds.Kind.TheVariants as kinds
use Rattle.text_grammar.specs.declared.places.Place.{Place}
use Rattle.text_grammar.specs.declared.places.Place.TheVariants as places
use Rattle.text_grammar.specs.declared.words.Word.{Word}
use Rattle.text_events.specs.declared.ending.EndKind.{EndKind}
use Rattle.text_events.specs.declared.ending.EndKind.TheVariants.{BadByte, OpenString, BadEscape, LongNumber, Expected}
use Rattle.text_events.specs.declared.ending.Ending.{Ending}
use Rattle.text_events.specs.declared.look.Refusal.{Refusal}
use Rattle.text_events.specs.Language.{Named, Before, step, ends_at, generic_text}

-- the first event at which looking ends though the grammar goes on, and why

abbrev pub one_later : Option Refusal → Option Refusal
one_later None = None
one_later (Some r) = Some (record { at = suc r.at; kind = r.kind })

abbrev pub here_or_later : Option EndKind → Option Refusal → Option Refusal
here_or_later (Some kind) later = Some (record { at = 0; kind = kind })
here_or_later None later = one_later later

abbrev pub first_refusal : Before → List (Event Place Named) → Option Refusal
first_refusal b [] = None
first_refusal b (e ∷ es) = here_or_later (ends_at b e) (first_refusal (step b e) es)

abbrev pub refused_word : Option Refusal → Option ℕ
refused_word None = None
refused_word (Some r) = Some r.at

-- the number of words that are looked at: none where the whole text is
abbrev pub end_of : Option Refusal → Bool → ℕ → Option ℕ
end_of refusal whole count = or_end (refused_word refusal) whole count

-- where looking ends nowhere, the words are a text, at these places
abbrev pub IsFound : Option ℕ → List Place → List Named → Type 0
IsFound None places words = ReadsText generic_text places words
IsFound (Some n) places words = ⊤

-- where it ends, the words before begin a text, and no text goes on
abbrev pub IsRefused : Option ℕ → List Named → Type 0
IsRefused None words = ⊤
IsRefused (Some n) words = EndsText generic_text words (drop n words)

-- the words, at these places, begin a text
abbrev pub BeginsAt : List Place → List Named → Type 0
BeginsAt ps words = (qs : List Place) × (more : List Named) × ReadsText generic_text (ps ++ qs) (words ++ more)

-- the words before the end, and their places, begin a text
abbrev pub IsBegun : Option ℕ → List Place → List Named → Type 0
IsBegun None places words = ⊤
IsBegun (Some n) places words = BeginsAt (take n places) (take n words)

-- The kind and the byte at which looking ends

abbrev pub is_number : Kind → Bool
is_number kinds.Number = true
is_number _ = false

abbrev pub lexical_kind : LexKind → EndKind
lexical_kind lexical.BadByte = BadByte
lexical_kind lexical.OpenString = OpenString
lexical_kind lexical.BadEscape = BadEscape

-- the place of the last memref word, counted from i
abbrev pub last_memref : ℕ → ℕ → List Place → ℕ
last_memref i found [] = found
last_memref i found (places.MemrefWord ∷ ps) = last_memref (i + 1) i ps
last_memref i found (p ∷ ps) = last_memref (i + 1) found ps

-- so many bytes behind the start of a word, and where there is none the end of the text
abbrev pub start_or : ℕ → Option Word → ℕ → ℕ
start_or end None behind = end
start_or end (Some w) behind = w.start + behind

abbrev pub is_long : EndKind → Bool
is_long LongNumber = true
is_long _ = false

-- the word that a refusal at this place names: the memref of a ninth dimension or of a layout, the symbol before `::`, and else the word itself, so also where it is a long number
abbrev pub blamed_place : Option Place → List Place → ℕ → ℕ
blamed_place (Some places.DimensionSize) before at = last_memref 0 at before
blamed_place (Some places.RefusedLayout) before at = last_memref 0 at before
blamed_place (Some places.RefusedColons) before at = at - 1
blamed_place _ before at = at

abbrev pub blamed : EndKind → Option Place → List Place → ℕ → ℕ
blamed kind place before at = if is_long kind then at else blamed_place place before at

-- of a long number behind `#` its first digit is named
abbrev pub behind_sign : EndKind → Option Place → ℕ
behind_sign LongNumber (Some places.UseNumber) = 1
behind_sign _ _ = 0

abbrev pub refusal_ending : ℕ → List Word → List Place → Refusal → Ending
refusal_ending end words places r = record {
  place = start_or end (slice_get words (blamed r.kind (slice_get places r.at) (take r.at places) r.at)) (behind_sign r.kind (slice_get places r.at));
  kind = r.kind;
}

-- at a word that does not fit
abbrev pub word_ending : Word → Ending
word_ending w = record { place = w.start; kind = if is_number w.kind && w.long then LongNumber else Expected }

-- behind all words: at a fault of the lexer, or at the end of the text where something is wanting
abbrev pub last_ending : ℕ → Bool → Option LexFault → Option Ending
last_ending end whole (Some fault) = Some (record { place = fault.place; kind = lexical_kind fault.kind })
last_ending end true None = None
last_ending end false None = Some (record { place = end; kind = Expected })

abbrev pub form_ending : ℕ → Bool → Option LexFault → Option Word → Option Ending
form_ending end true fault next = last_ending end true fault
form_ending end false fault None = last_ending end false fault
form_ending end false fault (Some w) = Some (word_ending w)

-- where looking at a text of so many bytes ends: at a refusal, else at the first word that does not fit, else behind all words; none where nothing ends it
abbrev pub ending_of : ℕ → List Word → Option LexFault → List Place → Bool → Option Refusal → Option Ending
ending_of end words fault places whole (Some r) = Some (refusal_ending end words places r)
ending_of end words fault places whole None = form_ending end whole fault (slice_get words (length places))
