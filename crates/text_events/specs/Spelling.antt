-- What the words of a text spell.
use Rattle.std.specs.Prelude.{ℕ, ◌+◌, ◌*◌, ◌-◌, ◌%◌, ◌==◌, Bool, false, List, [], ◌∷◌, length, take, drop, if◌then◌else◌}
use Rattle.mlir_lex.specs.Bytes.{is_short_escape}
use Rattle.text_grammar.specs.declared.kinds.Kind.{Kind}
use Rattle.text_grammar.specs.declared.kinds.Kind.TheVariants.{Text, SymbolName}
use Rattle.text_grammar.specs.declared.words.Word.{Word}
use Rattle.text_grammar.specs.TokenKinds.{digit_value}

-- the bytes from `start` up to `end`, as far as there are any
abbrev pub between : List ℕ → ℕ → ℕ → List ℕ
between text start end = take (end - start) (drop start text)

-- the bytes of a word
abbrev pub piece : List ℕ → Word → List ℕ
piece text w = between text w.start w.end

-- what stands between two quotes
abbrev pub inside : List ℕ → List ℕ
inside bytes = between bytes 1 (length bytes - 1)

abbrev pub is_quoted : List ℕ → Bool
is_quoted [] = false
is_quoted (b ∷ bs) = b == 34

-- without its quotes, where it has them
abbrev pub unquoted : List ℕ → List ℕ
unquoted bytes = if is_quoted bytes then inside bytes else bytes

-- the bytes of a word without the quotes of a string, and without the sign and the quotes of a symbol
unfoldable pub core : Kind → List ℕ → List ℕ
core Text bytes = inside bytes
core SymbolName bytes = unquoted (drop 1 bytes)
core _ bytes = bytes

-- what stands for the byte behind a `\`: a line feed for `n`, a tab for `t`
abbrev pub short_escape : ℕ → ℕ
short_escape b = if b == 110 then 10 else if b == 116 then 9 else b

abbrev mutual
  -- bytes with what stands for each escape in its place
  pub unescaped : List ℕ → List ℕ
  unescaped [] = []
  unescaped (b ∷ bs) = if b == 92 then behind_sign bs else b ∷ unescaped bs

  -- the same behind a `\`
  pub behind_sign : List ℕ → List ℕ
  behind_sign [] = []
  behind_sign (b ∷ bs) = if is_short_escape b then short_escape b ∷ unescaped bs else behind_digit (digit_value b) bs

  -- and behind a `\` and a hexadecimal digit of this value
  pub behind_digit : ℕ → List ℕ → List ℕ
  behind_digit value [] = []
  behind_digit value (b ∷ bs) = (value * 16 + digit_value b) % 256 ∷ unescaped bs

-- what a word spells
unfoldable pub spelled : List ℕ → Word → List ℕ
spelled text w = unescaped (core w.kind (piece text w))
