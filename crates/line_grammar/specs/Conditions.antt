-- What makes the machine read exactly the grammar. Each condition is a Bool, which is computed; a test ends at the first failure.
use Rattle.std.specs.Prelude.{◌≡◌, ℕ, zero, suc, Bool, true, false, not, List, [], ◌∷◌, Option, Some, None}
use Rattle.line_grammar.specs.declared.Symbol.{Symbol}
use Rattle.line_grammar.specs.declared.Symbol.TheVariants.{At, Part}
use Rattle.line_grammar.specs.Grammar.{Line, Grammar}

-- what stands at a place of a list
abbrev pub at_place : {X : Type 0} → ℕ → List X → Option X
at_place n [] = None
at_place zero (x ∷ xs) = Some x
at_place (suc n) (x ∷ xs) = at_place n xs

-- both, or one of two, or the second where the first stands; by cases on the first, so that the second need not be computed
abbrev pub both : Bool → Bool → Bool
both a b = elim a [ true ↦ b | false ↦ false ]

abbrev pub implies : Bool → Bool → Bool
implies a b = elim a [ true ↦ b | false ↦ true ]

abbrev pub all_in : {X : Type 0} → (X → Bool) → List X → Bool
all_in test [] = true
all_in test (x ∷ xs) = elim (test x) [ true ↦ all_in test xs | false ↦ false ]

-- the kind may be the first of one of the lines
abbrev pub heads : {P N K : Type 0} → Grammar P N K → K → List (Line P N) → Bool
heads g k [] = false
heads g k (line ∷ lines) = elim (g.fits line.0 k) [ true ↦ true | false ↦ heads g k lines ]

-- at most one of the lines begins with the kind
abbrev pub one_head : {P N K : Type 0} → Grammar P N K → K → List (Line P N) → Bool
one_head g k [] = true
one_head g k (line ∷ lines) = elim (g.fits line.0 k) [ true ↦ not (heads g k lines) | false ↦ one_head g k lines ]

-- the kind may come first, where `below` says what may come first behind the symbols
abbrev pub first : {P N K : Type 0} → Grammar P N K → List (Symbol P N) → (K → Bool) → K → Bool
first g [] below k = below k
first g (At p ∷ ss) below k = g.fits p k
first g (Part n ∷ ss) below k = elim (heads g k (g.lines n)) [ true ↦ true | false ↦ elim (g.empty n) [ true ↦ first g ss below k | false ↦ false ] ]

-- `follow` has, for each part among the symbols, what may come first behind it
abbrev pub closed : {P N K : Type 0} → Grammar P N K → List K → (N → K → Bool) → (K → Bool) → List (Symbol P N) → Bool
closed g every follow below [] = true
closed g every follow below (At p ∷ ss) = closed g every follow below ss
closed g every follow below (Part n ∷ ss) =
    elim (all_in (λ k. implies (first g ss below k) (follow n k)) every) [ true ↦ closed g every follow below ss | false ↦ false ]

-- at most one line of the part begins with each kind
abbrev pub one_line_each : {P N K : Type 0} → Grammar P N K → List K → N → Bool
one_line_each g every n = all_in (λ k. one_head g k (g.lines n)) every

-- if the part may be left out, none of its lines begins with a kind that may follow it
abbrev pub end_decided : {P N K : Type 0} → Grammar P N K → List K → (N → K → Bool) → N → Bool
end_decided g every follow n = implies (g.empty n) (all_in (λ k. implies (follow n k) (not (heads g k (g.lines n)))) every)

-- `follow` has what may come behind the parts in its lines
abbrev pub lines_closed : {P N K : Type 0} → Grammar P N K → List K → (N → K → Bool) → N → Bool
lines_closed g every follow n = all_in (λ line. closed g every follow (follow n) line.1) (g.lines n)

-- the next token decides in this part
abbrev pub decided : {P N K : Type 0} → Grammar P N K → List K → (N → K → Bool) → N → Bool
decided g every follow n = both (one_line_each g every n) (both (end_decided g every follow n) (lines_closed g every follow n))

-- the places among the symbols are plain
abbrev pub all_plain : {P N : Type 0} → (P → Bool) → List (Symbol P N) → Bool
all_plain plain [] = true
all_plain plain (At p ∷ ss) = elim (plain p) [ true ↦ all_plain plain ss | false ↦ false ]
all_plain plain (Part n ∷ ss) = all_plain plain ss

-- behind its head each line has plain places alone
abbrev pub plain_rests : {P N : Type 0} → (P → Bool) → List (Line P N) → Bool
plain_rests plain lines = all_in (λ line. all_plain plain line.1) lines

-- the symbols have a sentence of plain places, where `part` says of which parts it is known
abbrev pub made_all : {P N : Type 0} → (P → Bool) → (N → Bool) → List (Symbol P N) → Bool
made_all plain part [] = true
made_all plain part (At p ∷ ss) = elim (plain p) [ true ↦ made_all plain part ss | false ↦ false ]
made_all plain part (Part n ∷ ss) = elim (part n) [ true ↦ made_all plain part ss | false ↦ false ]

-- by the first of the lines
abbrev pub made_first : {P N : Type 0} → (P → Bool) → (N → Bool) → List (Line P N) → Bool
made_first plain part [] = false
made_first plain part (line ∷ lines) = elim (plain line.0) [ true ↦ made_all plain part line.1 | false ↦ false ]

-- the part has a sentence of plain places, by first lines alone, at most `depth` deep
abbrev pub made : {P N K : Type 0} → Grammar P N K → (P → Bool) → ℕ → N → Bool
made g plain zero n = g.empty n
made g plain (suc depth) n = elim (g.empty n) [ true ↦ true | false ↦ made_first plain (made g plain depth) (g.lines n) ]

-- the machine reads exactly what these symbols describe; `plain` are the places that may complete a text that was begun
pub record IsLl {P N K : Type 0} (g : Grammar P N K) (every : List K) (follow : N → K → Bool) (plain : P → Bool) (start : List (Symbol P N)) : Type 0 where
  -- `every` has every kind
  pub place : K → ℕ
  pub has_every : (k : K) → at_place (place k) every ≡ Some k
  -- the next token decides
  pub each_decided : (n : N) → decided g every follow n ≡ true
  pub start_closed : closed g every follow (λ k. false) start ≡ true
  -- each plain place has a token
  pub sample : P → K
  pub sample_fits : (p : P) → implies (plain p) (g.fits p (sample p)) ≡ true
  -- what was begun can be completed at plain places
  pub each_plain : (n : N) → plain_rests plain (g.lines n) ≡ true
  pub start_plain : all_plain plain start ≡ true
  pub depth : ℕ
  pub each_made : (n : N) → made g plain depth n ≡ true
