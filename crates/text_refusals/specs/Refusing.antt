-- The refusal of a text: of all kinds that stand, the one at the least place.
use Rattle.std.specs.Prelude.{◌≡◌, ℕ, Bool, List, [], ◌∷◌, ◌++◌, map, length, take, slice_get, Option, Some, None}
use Rattle.mlir_lex.specs.declared.LexFault.{LexFault}
use Rattle.line_grammar.specs.Language.{events}
use Rattle.text_grammar.specs.declared.places.Place.{Place}
use Rattle.text_grammar.specs.declared.words.Word.{Word}
use Rattle.text_grammar.specs.Steps.{Looked}
use Rattle.text_grammar.specs.Words.{AreWords}
use Rattle.text_events.specs.declared.event.Event.{Event}
use Rattle.text_events.specs.declared.ending.Ending.{Ending}
use Rattle.text_events.specs.declared.ending.EndKind.{EndKind}
use Rattle.text_events.specs.declared.ending.EndKind.TheVariants as ends
use Rattle.text_events.specs.declared.look.Refusal.{Refusal}
use Rattle.text_events.specs.Language.{named, nothing_before}
use Rattle.text_events.specs.Looking.{first_refusal, end_of, ending_of, IsFound, IsRefused, IsBegun}
use Rattle.text_events.specs.Names.{names_of}
use Rattle.text_events.specs.Source.{events_of}
use Rattle.text_scopes.specs.declared.bodies.Class.{Class}
use Rattle.text_scopes.specs.declared.tables.Names.TheVariants as names
use Rattle.text_scopes.specs.Bodies.{class_in}
use Rattle.text_scopes.specs.Tables.{first_unknown}
use Rattle.text_types.specs.Spelling.{Spelling}
use Rattle.text_types.specs.Items.{Aliases}
use Rattle.text_types.specs.Aliases.{aliases_of}
use Rattle.text_types.specs.Marks.{marked}
use Rattle.type_kinds.specs.Ranges.{first_out}
use Rattle.type_kinds.specs.Counts.{first_miscount}
use Rattle.type_kinds.specs.Depths.{first_deep_type, first_deep_attr}
use Rattle.type_kinds.specs.Parts.{first_part}
use Rattle.text_kinds.specs.declared.found.Found.{Found}
use Rattle.text_kinds.specs.declared.found.Kind.{Kind}
use Rattle.text_kinds.specs.declared.found.Kind.TheVariants as kinds
use Rattle.text_kinds.specs.Kinds.{least}
use Rattle.text_kinds.specs.Plain.{plain_kinds, found_at}
use Rattle.use_kinds.specs.Clashes.{first_clash}
use Rattle.text_refusals.specs.Classes.{classes_of}
use Rattle.text_refusals.specs.Spelling.{indexes_of, spelling_of}

-- the kinds that look at types, over events whose function types are marked, with the aliases of the text; the last is `UseType` or `ResultIndex`
abbrev pub kinds_of_types : Spelling → (ℕ → ℕ) → Aliases → (ℕ → Class) → List Event → List (Option Found)
kinds_of_types words indexes aliases class es =
    found_at kinds.IntegerRange (first_out words aliases es)
    ∷ found_at kinds.TypeCount (first_miscount words aliases es)
    ∷ found_at kinds.TypeDepth (first_deep_type es)
    ∷ found_at kinds.AttrDepth (first_deep_attr es)
    ∷ found_at kinds.Parts (first_part es)
    ∷ first_clash words indexes aliases class es
    ∷ []

abbrev pub typed_kinds : Spelling → (ℕ → ℕ) → (ℕ → Class) → List Event → List (Option Found)
typed_kinds words indexes class es = kinds_of_types words indexes (aliases_of words (marked es)) class (marked es)

-- uses that stand for nothing
abbrev pub used_kinds : (ℕ → Class) → List Event → List (Option Found)
used_kinds class es =
    found_at kinds.UndefinedValue (first_unknown names.Values class es)
    ∷ found_at kinds.UndefinedBlock (first_unknown names.Labels class es)
    ∷ []

-- the kinds that end looking at a text
abbrev pub end_kind : EndKind → Kind
end_kind ends.BadByte = kinds.BadByte
end_kind ends.OpenString = kinds.OpenString
end_kind ends.BadEscape = kinds.BadEscape
end_kind ends.LongNumber = kinds.LongNumber
end_kind ends.Expected = kinds.Expected
end_kind ends.UnknownAlias = kinds.UnknownAlias
end_kind ends.UnsupportedType = kinds.UnsupportedType
end_kind ends.UnsupportedAttr = kinds.UnsupportedAttr

abbrev pub ended : Option Ending → Option Found
ended None = None
ended (Some e) = Some (record { place = e.place; kind = end_kind e.kind })

-- a refusal at an event, by the byte at which its word starts

abbrev pub at_word : Kind → Option Word → Option Found
at_word kind None = None
at_word kind (Some w) = Some (record { place = w.start; kind = kind })

abbrev pub at_byte : List Word → Option Found → Option Found
at_byte words None = None
at_byte words (Some found) = at_word found.kind (slice_get words found.place)

-- the events that are looked at
abbrev pub before : Option ℕ → List Event → List Event
before None es = es
before (Some n) es = take n es

-- what was found of words and of a fault of the lexer behind them
pub record Seen : Type 0 where
  pub words : List Word
  pub fault : Option LexFault
  pub places : List Place
  pub whole : Bool
  pub refusal : Option Refusal

abbrev pub end_seen : Seen → Option ℕ
end_seen s = end_of s.refusal s.whole (length s.places)

abbrev pub events_seen : List ℕ → Seen → List Event
events_seen text s = before (end_seen s) (events_of s.places (names_of text s.words))

-- all refusals but those of uses, by their bytes
abbrev pub others : List ℕ → Bool → Seen → List (Option Found)
others text allowed s =
    map (at_byte s.words) (plain_kinds (class_in (classes_of text s.words)) allowed (events_seen text s) ++ typed_kinds (spelling_of text s.words) (indexes_of text s.words) (class_in (classes_of text s.words)) (events_seen text s))
    ++ ended (ending_of (length text) s.words s.fault s.places s.whole s.refusal) ∷ []

abbrev pub uses : List ℕ → Seen → List (Option Found)
uses text s = map (at_byte s.words) (used_kinds (class_in (classes_of text s.words)) (events_seen text s))

-- the refusal of the text, none where nothing refuses it
abbrev pub refusal_of : List ℕ → Bool → Seen → Option Found
refusal_of text allowed s = least (others text allowed s) (uses text s)

-- what was found is of this text
pub record IsSeen (text : List ℕ) (s : Seen) : Type 0 where
  pub words : AreWords text s.words s.fault
  pub form : Looked s.places s.whole s.words
  pub refusal : s.refusal ≡ first_refusal nothing_before (events s.places (named s.words (names_of text s.words)))
  -- where looking ends nowhere, the words are a text, at these places; where it ends, the words before begin one, and no text goes on
  pub found : IsFound (end_seen s) s.places (named s.words (names_of text s.words))
  pub refused : IsRefused (end_seen s) (named s.words (names_of text s.words))
  pub begun : IsBegun (end_seen s) s.places (named s.words (names_of text s.words))

-- the text is refused so, or by nothing
abbrev pub Refuses : List ℕ → Bool → Option Found → Type 0
Refuses text allowed found = (s : Seen) × IsSeen text s × (found ≡ refusal_of text allowed s)

-- a text is refused in one way, or by nothing
abbrev pub RefusesOnce : Type 0
RefusesOnce = (text : List ℕ) (allowed : Bool) (o p : Option Found) → Refuses text allowed o → Refuses text allowed p → o ≡ p
