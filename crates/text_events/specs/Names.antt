-- The numbers of names: two words have one exactly where they spell the same.
use Rattle.std.specs.Prelude.{ℕ, ◌+◌, Bool, true, false, not, ◌&&◌, List, [], ◌∷◌, position, if◌then◌else◌}
use Rattle.std.specs.Option.{unwrap_or}
use Rattle.std.specs.Str.{bytes_eq}
use Rattle.text_grammar.specs.declared.kinds.Kind.{Kind}
use Rattle.text_grammar.specs.declared.kinds.Kind.TheVariants as kinds
use Rattle.text_grammar.specs.declared.words.Word.{Word}
use Rattle.text_events.specs.Spelling.{spelled}

-- signs spell nothing that has a name
abbrev pub is_sign : Kind → Bool
is_sign kinds.DimensionX = true
is_sign kinds.OpenParen = true
is_sign kinds.CloseParen = true
is_sign kinds.OpenSquare = true
is_sign kinds.CloseSquare = true
is_sign kinds.OpenBrace = true
is_sign kinds.CloseBrace = true
is_sign kinds.Less = true
is_sign kinds.Greater = true
is_sign kinds.Comma = true
is_sign kinds.Colon = true
is_sign kinds.Equals = true
is_sign kinds.Question = true
is_sign kinds.Minus = true
is_sign kinds.Arrow = true
is_sign kinds.DoubleColon = true
is_sign _ = false

-- the word is no sign, and spells this
abbrev pub spells : List ℕ → List ℕ → Word → Bool
spells text bytes w = not (is_sign w.kind) && bytes_eq (spelled text w) bytes

-- the number of a word, which is the i-th of all: the place of the first one that spells the same; a sign has its own place
abbrev pub name_of : List ℕ → List Word → ℕ → Word → ℕ
name_of text all i w = if is_sign w.kind then i else unwrap_or (position (spells text (spelled text w)) all) i

abbrev pub names_from : List ℕ → List Word → ℕ → List Word → List ℕ
names_from text all i [] = []
names_from text all i (w ∷ ws) = name_of text all i w ∷ names_from text all (i + 1) ws

-- the number of each word
abbrev pub names_of : List ℕ → List Word → List ℕ
names_of text words = names_from text words 0 words
