-- What the words of a text spell, for its trees.
use Rattle.std.specs.Prelude.{ℕ, List}
use Rattle.text_grammar.specs.declared.words.Word.{Word}
use Rattle.text_events.specs.Source.{spelled_of, number_of, index_of}

-- by the numbers of names
pub record Wording : Type 0 where
  -- what the word spells, without its quotes and with what stands for each escape
  pub spelled : ℕ → List ℕ
  -- the value of a number
  pub number : ℕ → ℕ
  -- the value behind the `#` of a use
  pub index : ℕ → ℕ

abbrev pub wording_of : List ℕ → List Word → Wording
wording_of text words = record { spelled = spelled_of text words; number = number_of text words; index = index_of text words }
