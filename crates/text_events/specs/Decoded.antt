-- The words whose escapes have to be replaced, as the code gathers them.
use Rattle.std.specs.Prelude.{ℕ, ◌==◌, Bool, List, [], ◌∷◌, if◌then◌else◌}
use Rattle.std.specs.List.{list_any}
use Rattle.text_grammar.specs.declared.words.Word.{Word}
use Rattle.text_events.specs.declared.spelling.Waits.{Waits}
use Rattle.text_events.specs.declared.spelling.Waits.TheVariants.{Byte, Escape, Digit}
use Rattle.text_events.specs.Spelling.{core, piece, unescaped, behind_sign, behind_digit, spelled}

abbrev pub has_escape : List ℕ → Bool
has_escape bytes = list_any (λ b. b == 92) bytes

-- what the words with escapes spell, in order
abbrev pub decoded_of : List ℕ → List Word → List (List ℕ)
decoded_of text [] = []
decoded_of text (w ∷ ws) = if has_escape (core w.kind (piece text w)) then spelled text w ∷ decoded_of text ws else decoded_of text ws

-- what is left, by what is waited for
abbrev pub left : Waits → List ℕ → List ℕ
left Byte bytes = unescaped bytes
left Escape bytes = behind_sign bytes
left (Digit value) bytes = behind_digit value bytes
