-- What the machine takes is a reading.
use Rattle.std.proofs.Common.{◌≡◌, Bool, true, false, List, [], ◌∷◌, Option, Some, None, refl}
use Rattle.std.specs.Prelude.{if◌then◌else◌, ◌&&◌}
use Rattle.line_grammar.specs.declared.Symbol.{Symbol}
use Rattle.line_grammar.specs.declared.Symbol.TheVariants.{At, Part}
use Rattle.line_grammar.specs.Grammar.{Line, Grammar, Has, here, later, Reads, done, takes, opens, leaves}
use Rattle.line_grammar.specs.Machine.{line_for, Step, taken, left_out, opened, next, going, run, ends, whole}

-- the line that is found is one of the lines, and fits
pub data Found {P N K : Type 0} (g : Grammar P N K) (k : K) (lines : List (Line P N)) : Option (Line P N) → Type 0 where
  none : Found g k lines None
  one : (line : Line P N) → Has line lines → g.fits line.0 k ≡ true → Found g k lines (Some line)

found_later : {P N K : Type 0} (g : Grammar P N K) (k : K) (line : Line P N) (lines : List (Line P N)) (o : Option (Line P N)) → Found g k lines o → Found g k (line ∷ lines) o
found_later g k line lines o none = none
found_later g k line lines o (one l has fit) = one l (later line has) fit

found_case : {P N K : Type 0} (g : Grammar P N K) (k : K) (line : Line P N) (lines : List (Line P N)) (b : Bool) → g.fits line.0 k ≡ b
    → Found g k lines (line_for g k lines) → Found g k (line ∷ lines) (if b then Some line else line_for g k lines)
found_case g k line lines true e h = one line (here lines) e
found_case g k line lines false e h = found_later g k line lines (line_for g k lines) h

pub found : {P N K : Type 0} (g : Grammar P N K) (k : K) (lines : List (Line P N)) → Found g k lines (line_for g k lines)
found g k [] = none
found g k (line ∷ lines) = found_case g k line lines (g.fits line.0 k) refl (found g k lines)

-- a step puts a token before each reading of what is wanted then
abbrev pub Takes : {P N K : Type 0} → Grammar P N K → List (Symbol P N) → K → Option (Step P N) → Type 0
Takes g ss k None = Unit {0}
Takes {P = P} {K = K} g ss k (Some step) = (ps : List P) (ks : List K) → Reads g step.1 ps ks → Reads g ss (step.0 ∷ ps) (k ∷ ks)

takes_place : {P N K : Type 0} (g : Grammar P N K) (p : P) (ss : List (Symbol P N)) (k : K) (b : Bool) → g.fits p k ≡ b → Takes g (At p ∷ ss) k (taken b p ss)
takes_place g p ss k true fit = λ ps ks r. takes p k fit r
takes_place g p ss k false fit = tt

takes_below : {P N K : Type 0} (g : Grammar P N K) (n : N) (ss : List (Symbol P N)) (k : K) (b : Bool) (o : Option (Step P N)) → g.empty n ≡ b → Takes g ss k o
    → Takes g (Part n ∷ ss) k (left_out b o)
takes_below g n ss k true None e h = tt
takes_below g n ss k true (Some step) e h = λ ps ks r. leaves n e (h ps ks r)
takes_below g n ss k false o e h = tt

takes_part : {P N K : Type 0} (g : Grammar P N K) (n : N) (ss : List (Symbol P N)) (k : K) (o : Option (Line P N)) → Found g k (g.lines n) o → Takes g ss k (next g ss k)
    → Takes g (Part n ∷ ss) k (opened o (g.empty n) ss (next g ss k))
takes_part g n ss k o none below = takes_below g n ss k (g.empty n) (next g ss k) refl below
takes_part g n ss k o (one line has fit) below = λ ps ks r. opens n line k has fit r

pub next_takes : {P N K : Type 0} (g : Grammar P N K) (ss : List (Symbol P N)) (k : K) → Takes g ss k (next g ss k)
unfolding next
next_takes g [] k = tt
next_takes g (At p ∷ ss) k = takes_place g p ss k (g.fits p k) refl
next_takes g (Part n ∷ ss) k = takes_part g n ss k (line_for g k (g.lines n)) (found g k (g.lines n)) (next_takes g ss k)

-- what may be left out is no tokens
left_case : {P N K : Type 0} (g : Grammar P N K) (n : N) (ss : List (Symbol P N)) (b c : Bool) → g.empty n ≡ b → (c ≡ true → Reads g ss [] []) → b && c ≡ true
    → Reads g (Part n ∷ ss) [] []
left_case g n ss true c e more h = leaves n e (more h)
left_case g n ss false c e more h = absurd cc

pub ends_reads : {P N K : Type 0} (g : Grammar P N K) (ss : List (Symbol P N)) → ends g ss ≡ true → Reads g ss [] []
ends_reads g [] h = done
ends_reads g (At p ∷ ss) h = absurd cc
ends_reads g (Part n ∷ ss) h = left_case g n ss (g.empty n) (ends g ss) refl (ends_reads g ss) h

-- a run that is whole is a reading
found_step : {P N K : Type 0} (g : Grammar P N K) (ss : List (Symbol P N)) (k : K) (ks : List K) (o : Option (Step P N)) → Takes g ss k o
    → ((more : List (Symbol P N)) → whole g (run g more ks) ≡ true → Reads g more (run g more ks).0 ks)
    → whole g (going o (λ more. run g more ks)) ≡ true → Reads g ss (going o (λ more. run g more ks)).0 (k ∷ ks)
found_step g ss k ks None h more is = absurd cc
found_step g ss k ks (Some step) h more is = h (run g step.1 ks).0 ks (more step.1 is)

pub gives_found : {P N K : Type 0} (g : Grammar P N K) (ss : List (Symbol P N)) (ks : List K) → whole g (run g ss ks) ≡ true → Reads g ss (run g ss ks).0 ks
unfolding run
gives_found g ss [] is = ends_reads g ss is
gives_found g ss (k ∷ ks) is = found_step g ss k ks (next g ss k) (next_takes g ss k) (λ more. gives_found g more ks) is
