-- What the words of a text spell, for its types.
use Rattle.std.specs.Prelude.{ℕ, List}
use Rattle.text_grammar.specs.declared.words.Word.{Word}
use Rattle.text_types.specs.Spelling.{Spelling}
use Rattle.text_events.specs.Source.{index_of, number_of, size_of, width_of, is_void}

abbrev pub spelling_of : List ℕ → List Word → Spelling
spelling_of text words = record { width = width_of text words; size = size_of text words; number = number_of text words; is_void = is_void text words }

-- the indexes of uses, by the numbers of their names
abbrev pub indexes_of : List ℕ → List Word → ℕ → ℕ
indexes_of text words = index_of text words
