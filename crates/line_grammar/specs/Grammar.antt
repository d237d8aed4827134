-- Grammars as data, and what they describe.
use Rattle.std.specs.Prelude.{◌≡◌, Bool, true, List, [], ◌∷◌, ◌++◌}
use Rattle.line_grammar.specs.declared.Symbol.{Symbol}
use Rattle.line_grammar.specs.declared.Symbol.TheVariants.{At, Part}

-- the place of the first token, and what stands behind it
abbrev pub Line : Type 0 → Type 0 → Type 0
Line P N = P × List (Symbol P N)

-- a grammar with places P, parts N and kinds of tokens K
pub record Grammar (P N K : Type 0) : Type 0 where
  -- whether a token of the kind may stand at the place
  pub fits : P → K → Bool
  pub lines : N → List (Line P N)
  -- whether the part may be left out
  pub empty : N → Bool

-- the list has the element
pub data Has {X : Type 0} (x : X) : List X → Type 0 where
  here : (xs : List X) → Has x (x ∷ xs)
  later : (y : X) {xs : List X} → Has x xs → Has x (y ∷ xs)

-- tokens of these kinds are what the symbols describe, and stand at these places
pub data Reads {P N K : Type 0} (g : Grammar P N K) : List (Symbol P N) → List P → List K → Type 0 where
  -- no symbols are no tokens
  done : Reads g [] [] []
  -- a place is a token that fits
  takes : (p : P) (k : K) {ss : List (Symbol P N)} {ps : List P} {ks : List K} → g.fits p k ≡ true → Reads g ss ps ks → Reads g (At p ∷ ss) (p ∷ ps) (k ∷ ks)
  -- a part is one of its lines
  opens : (n : N) (line : Line P N) (k : K) {ss : List (Symbol P N)} {ps : List P} {ks : List K} → Has line (g.lines n) → g.fits line.0 k ≡ true
      → Reads g (line.1 ++ ss) ps ks → Reads g (Part n ∷ ss) (line.0 ∷ ps) (k ∷ ks)
  -- or nothing, if it may be left out
  leaves : (n : N) {ss : List (Symbol P N)} {ps : List P} {ks : List K} → g.empty n ≡ true → Reads g ss ps ks → Reads g (Part n ∷ ss) ps ks

-- the tokens are what the symbols describe
abbrev pub Sentence : {P N K : Type 0} → Grammar P N K → List (Symbol P N) → List K → Type 0
Sentence {P = P} g ss ks = (ps : List P) × Reads g ss ps ks

-- the tokens, with some behind them, are a sentence
abbrev pub Begins : {P N K : Type 0} → Grammar P N K → List (Symbol P N) → List K → Type 0
Begins {K = K} g ss ks = (more : List K) × Sentence g ss (ks ++ more)

-- no sentence goes on with the next token; at the end, what is there is no sentence
abbrev pub NoneGoesOn : {P N K : Type 0} → Grammar P N K → List (Symbol P N) → List K → List K → Type 0
NoneGoesOn g ss front [] = Sentence g ss front → ⊥
NoneGoesOn g ss front (k ∷ rest) = Begins g ss (front ++ k ∷ []) → ⊥

-- rest is what is left from the first token that does not fit: the tokens before it begin a sentence, and none goes on with it
pub record IsExpected {P N K : Type 0} (g : Grammar P N K) (ss : List (Symbol P N)) (ks rest : List K) : Type 0 where
  pub front : List K
  pub is : ks ≡ front ++ rest
  pub begun : Begins g ss front
  pub none : NoneGoesOn g ss front rest
