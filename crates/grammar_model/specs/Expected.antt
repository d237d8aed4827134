-- Where a list of tokens stops being a beginning of a sentence.
use Rattle.std.specs.Prelude.{◌≡◌, List, [], ◌∷◌, ◌++◌, Result, Ok, Err}
use Rattle.grammar_model.specs.Syntax.{Syntax, ◌>>=◌}

-- the tokens are a way to write some value
abbrev pub Sentence : {W K X : Type 0} {kind : W → K} → Syntax kind X → List W → Type 0
Sentence {X = X} s ts = (x : X) × s.Written x ts

-- the tokens, with some behind them, are a sentence
abbrev pub Begins : {W K X : Type 0} {kind : W → K} → Syntax kind X → List W → Type 0
Begins {W = W} s ts = (more : List W) × Sentence s (ts ++ more)

-- no sentence goes on with the next token; at the end, what is there is no sentence
abbrev pub NoneGoesOn : {W K X : Type 0} {kind : W → K} → Syntax kind X → List W → List W → Type 0
NoneGoesOn s front [] = Sentence s front → ⊥
NoneGoesOn s front (t ∷ rest) = Begins s (front ++ t ∷ []) → ⊥

-- rest is what is left from the first token that does not fit: the tokens before it begin a sentence, and none goes on with it
pub record IsExpected {W K X : Type 0} {kind : W → K} (s : Syntax kind X) (ts rest : List W) : Type 0 where
  pub front : List W
  pub whole : ts ≡ front ++ rest
  pub begun : Begins s front
  pub none : NoneGoesOn s front rest

-- the value, where nothing is left behind it
abbrev pub with_nothing : {W X : Type 0} → X → List W → Result X (List W)
with_nothing x [] = Ok x
with_nothing x (t ∷ rest) = Err (t ∷ rest)

-- a whole list of tokens read as one sentence
abbrev pub whole_of : {W K X : Type 0} {kind : W → K} → Syntax kind X → List W → Result X (List W)
whole_of s ts = s.read ts >>= λ x. with_nothing x.0 x.1
