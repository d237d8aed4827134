-- The machine: each step takes a token at a place, or refuses it.
use Rattle.std.specs.Prelude.{Bool, true, false, ◌&&◌, List, [], ◌∷◌, ◌++◌, Option, Some, None, if◌then◌else◌}
use Rattle.line_grammar.specs.declared.Symbol.{Symbol}
use Rattle.line_grammar.specs.declared.Symbol.TheVariants.{At, Part}
use Rattle.line_grammar.specs.Grammar.{Line, Grammar}

-- the first line whose head fits the kind
abbrev pub line_for : {P N K : Type 0} → Grammar P N K → K → List (Line P N) → Option (Line P N)
line_for g k [] = None
line_for g k (line ∷ lines) = if g.fits line.0 k then Some line else line_for g k lines

-- a token was taken at a place, and this is wanted behind it
abbrev pub Step : Type 0 → Type 0 → Type 0
Step P N = P × List (Symbol P N)

-- a place takes a token that fits
abbrev pub taken : {P N : Type 0} → Bool → P → List (Symbol P N) → Option (Step P N)
taken true p ss = Some (p, ss)
taken false p ss = None

abbrev pub left_out : {X : Type 0} → Bool → Option X → Option X
left_out true below = below
left_out false below = None

-- a part takes it by the line found; where none is, what is below takes it, if the part may be left out
abbrev pub opened : {P N : Type 0} → Option (Line P N) → Bool → List (Symbol P N) → Option (Step P N) → Option (Step P N)
opened (Some line) empty ss below = Some (line.0, line.1 ++ ss)
opened None empty ss below = left_out empty below

-- where a token of the kind is taken, and what is wanted then
unfoldable pub next : {P N K : Type 0} → Grammar P N K → List (Symbol P N) → K → Option (Step P N)
next g [] k = None
next g (At p ∷ ss) k = taken (g.fits p k) p ss
next g (Part n ∷ ss) k = opened (line_for g k (g.lines n)) (g.empty n) ss (next g ss k)

-- the places of the tokens that were taken, and what is wanted at the end, or None where a token was not taken
abbrev pub Outcome : Type 0 → Type 0 → Type 0
Outcome P N = List P × Option (List (Symbol P N))

abbrev pub with_front : {P N : Type 0} → List P → Outcome P N → Outcome P N
with_front ps o = (ps ++ o.0, o.1)

abbrev pub going : {P N : Type 0} → Option (Step P N) → (List (Symbol P N) → Outcome P N) → Outcome P N
going None more = ([], None)
going (Some step) more = (step.0 ∷ (more step.1).0, (more step.1).1)

-- token by token
unfoldable pub run : {P N K : Type 0} → Grammar P N K → List (Symbol P N) → List K → Outcome P N
run g ss [] = ([], Some ss)
run g ss (k ∷ ks) = going (next g ss k) (λ more. run g more ks)

-- all that is wanted may be left out
abbrev pub ends : {P N K : Type 0} → Grammar P N K → List (Symbol P N) → Bool
ends g [] = true
ends g (At p ∷ ss) = false
ends g (Part n ∷ ss) = g.empty n && ends g ss

abbrev pub ends_there : {P N K : Type 0} → Grammar P N K → Option (List (Symbol P N)) → Bool
ends_there g None = false
ends_there g (Some wanted) = ends g wanted

-- each token was taken, and nothing is wanted
abbrev pub whole : {P N K : Type 0} → Grammar P N K → Outcome P N → Bool
whole g o = ends_there g o.1
