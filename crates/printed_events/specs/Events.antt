-- The events of the text of words.
use Rattle.std.specs.Prelude.{ℕ, List, map}
use Rattle.text_grammar.specs.declared.words.Word.{Word}
use Rattle.text_events.specs.Names.{names_of}
use Rattle.text_events.specs.Source.{events_of, number_of, size_of, width_of, is_void}
use Rattle.text_types.specs.Spelling.{Spelling}
use Rattle.event_trees.specs.Wording.{wording_of}
use Rattle.printed_words.specs.Words.{PrintedWord, text_of, words_from}
use Rattle.printed_terms.specs.Told.{Told}

-- what the words of a text spell, for its types
abbrev pub spelling_in : List ℕ → List Word → Spelling
spelling_in text words = record { width = width_of text words; size = size_of text words; number = number_of text words; is_void = is_void text words }

-- where words are printed one by one, each event says what its word says by its own bytes, though it may have the name of an earlier word that spells the same
abbrev pub WordsAreTold : Type 0
WordsAreTold = (ws : List PrintedWord) (end : List ℕ) → let text = text_of ws end in let words = words_from 0 ws in
    Told (spelling_in text words) (wording_of text words) ws (events_of (map (λ w. w.place) ws) (names_of text words))
