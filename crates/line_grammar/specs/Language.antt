-- Languages: a grammar over tokens, and a test over the tokens with their places that stands at none of them.
use Rattle.std.specs.Prelude.{◌≡◌, ℕ, suc, Bool, true, false, List, [], ◌∷◌, ◌++◌, map, Option, Some, None}
use Rattle.line_grammar.specs.declared.Symbol.{Symbol}
use Rattle.line_grammar.specs.Grammar.{Grammar, Reads}
use Rattle.line_grammar.specs.Conditions.{IsLl}

-- a token and its place
abbrev pub Event : Type 0 → Type 0 → Type 0
Event P T = P × T

-- tokens T, and S is what is kept of the events before
pub record Language (P N K T S : Type 0) : Type 0 where
  pub grammar : Grammar P N K
  pub start : List (Symbol P N)
  pub kind : T → K
  pub first : S
  pub step : S → Event P T → S
  -- whether the test stands at the event
  pub stands : S → Event P T → Bool

-- each token with its place
abbrev pub events : {P T : Type 0} → List P → List T → List (Event P T)
events [] ts = []
events (p ∷ ps) [] = []
events (p ∷ ps) (t ∷ ts) = (p, t) ∷ events ps ts

-- the test stands at no event
abbrev pub clean : {S E : Type 0} → (S → E → S) → (S → E → Bool) → S → List E → Bool
clean step stands s [] = true
clean step stands s (e ∷ es) = elim (stands s e) [ true ↦ false | false ↦ clean step stands (step s e) es ]

-- one place later
abbrev pub one_later : Option ℕ → Option ℕ
one_later None = None
one_later (Some n) = Some (suc n)

-- the first event at which the test stands
abbrev pub first_at : {S E : Type 0} → (S → E → S) → (S → E → Bool) → S → List E → Option ℕ
first_at step stands s [] = None
first_at step stands s (e ∷ es) = elim (stands s e) [ true ↦ Some 0 | false ↦ one_later (first_at step stands (step s e) es) ]

-- where looking ends: at the first event at which the test stands, or, where the text is no sentence, behind the last place
abbrev pub or_end : Option ℕ → Bool → ℕ → Option ℕ
or_end (Some n) whole count = Some n
or_end None true count = None
or_end None false count = Some count

-- the tokens are what the symbols describe, at these places, and the test stands at none
abbrev pub ReadsFrom : {P N K T S : Type 0} → Language P N K T S → List (Symbol P N) → S → List P → List T → Type 0
ReadsFrom l ss s ps ts = Reads l.grammar ss ps (map l.kind ts) × (clean l.step l.stands s (events ps ts) ≡ true)

abbrev pub IsTextFrom : {P N K T S : Type 0} → Language P N K T S → List (Symbol P N) → S → List T → Type 0
IsTextFrom {P = P} l ss s ts = (ps : List P) × ReadsFrom l ss s ps ts

abbrev pub BeginsTextFrom : {P N K T S : Type 0} → Language P N K T S → List (Symbol P N) → S → List T → Type 0
BeginsTextFrom {T = T} l ss s ts = (more : List T) × IsTextFrom l ss s (ts ++ more)

-- no text goes on with the next token; at the end, what is there is no text
abbrev pub NoTextGoesOnFrom : {P N K T S : Type 0} → Language P N K T S → List (Symbol P N) → S → List T → List T → Type 0
NoTextGoesOnFrom l ss s front [] = IsTextFrom l ss s front → ⊥
NoTextGoesOnFrom l ss s front (t ∷ rest) = BeginsTextFrom l ss s (front ++ t ∷ []) → ⊥

-- rest is what is left from the first token with which no text goes on: the tokens before it begin a text
pub record EndsFrom {P N K T S : Type 0} (l : Language P N K T S) (ss : List (Symbol P N)) (s : S) (ts rest : List T) : Type 0 where
  pub front : List T
  pub is : ts ≡ front ++ rest
  pub begun : BeginsTextFrom l ss s front
  pub none : NoTextGoesOnFrom l ss s front rest

-- The same of whole texts

-- the text has these tokens at these places
abbrev pub ReadsText : {P N K T S : Type 0} → Language P N K T S → List P → List T → Type 0
ReadsText l ps ts = ReadsFrom l l.start l.first ps ts

abbrev pub IsText : {P N K T S : Type 0} → Language P N K T S → List T → Type 0
IsText l ts = IsTextFrom l l.start l.first ts

abbrev pub BeginsText : {P N K T S : Type 0} → Language P N K T S → List T → Type 0
BeginsText l ts = BeginsTextFrom l l.start l.first ts

abbrev pub EndsText : {P N K T S : Type 0} → Language P N K T S → List T → List T → Type 0
EndsText l ts rest = EndsFrom l l.start l.first ts rest

-- what makes the machine, with the test, read exactly the language
pub record IsLanguage {P N K T S : Type 0} (l : Language P N K T S) (every : List K) (follow : N → K → Bool) (plain : P → Bool) : Type 0 where
  pub ll : IsLl l.grammar every follow plain l.start
  -- each kind has a token
  pub token : K → T
  pub token_is : (k : K) → l.kind (token k) ≡ k
  -- the test stands at no plain place, at such a token
  pub never : (s : S) (p : P) (k : K) → plain p ≡ true → l.stands s (p, token k) ≡ false
