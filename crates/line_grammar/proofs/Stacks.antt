-- What stays true of the symbols that are wanted: what may come behind each part is known, and the places are plain.
use Rattle.std.proofs.Common.{◌≡◌, ℕ, Bool, true, false, List, [], ◌∷◌, ◌++◌, Option, Some, None, refl, ap, subst}
use Rattle.line_grammar.specs.declared.Symbol.{Symbol}
use Rattle.line_grammar.specs.declared.Symbol.TheVariants.{At, Part}
use Rattle.line_grammar.specs.Grammar.{Line, Grammar, Has}
use Rattle.line_grammar.specs.Machine.{line_for, Step, taken, left_out, opened, next}
use Rattle.line_grammar.specs.Conditions.{at_place, both, implies, all_in, first, closed, decided, one_line_each, end_decided, lines_closed, all_plain, IsLl}
use Rattle.line_grammar.proofs.Tests.{both_left, both_right, implied, all_has, all_at, first_behind}
use Rattle.line_grammar.proofs.Sound.{Found, none, one, found}

-- for each part that is wanted `follow` has what may come first behind it
abbrev pub Fine : {P N K : Type 0} → Grammar P N K → (N → K → Bool) → List (Symbol P N) → Type 0
Fine g follow [] = Unit {0}
Fine g follow (At p ∷ ss) = Fine g follow ss
Fine {K = K} g follow (Part n ∷ ss) = ((k : K) → first g ss (λ k. false) k ≡ true → follow n k ≡ true) × Fine g follow ss

-- and the places are plain
pub record Good {P N K : Type 0} (g : Grammar P N K) (follow : N → K → Bool) (plain : P → Bool) (ss : List (Symbol P N)) : Type 0 where
  pub fine : Fine g follow ss
  pub plain_places : all_plain plain ss ≡ true

pub fine_on : {P N K : Type 0} (g : Grammar P N K) (every : List K) (follow : N → K → Bool) (place : K → ℕ) → ((k : K) → at_place (place k) every ≡ Some k)
    → (below : K → Bool) (ls ss : List (Symbol P N)) → closed g every follow below ls ≡ true → ((k : K) → first g ss (λ k. false) k ≡ true → below k ≡ true)
    → Fine g follow ss → Fine g follow (ls ++ ss)
fine_on g every follow place has below [] ss c more h = h
fine_on g every follow place has below (At p ∷ ls) ss c more h = fine_on g every follow place has below ls ss c more h
fine_on g every follow place has below (Part n ∷ ls) ss c more h = (
  λ k is. implied (first g ls below k) (follow n k)
      (all_at (λ k. implies (first g ls below k) (follow n k)) k (place k) every
      (both_left (all_in (λ k. implies (first g ls below k) (follow n k)) every) (closed g every follow below ls) c) (has k))
      (first_behind g ls ss below k (more k) is),
  fine_on g every follow place has below ls ss
      (both_right (all_in (λ k. implies (first g ls below k) (follow n k)) every) (closed g every follow below ls) c) more h,
)

pub plain_on : {P N : Type 0} (plain : P → Bool) (ls ss : List (Symbol P N)) → all_plain plain ls ≡ true → all_plain plain ss ≡ true → all_plain plain (ls ++ ss) ≡ true
plain_on plain [] ss a b = b
plain_on plain (At p ∷ ls) ss a b =
    let e : plain p ≡ true = both_left (plain p) (all_plain plain ls) a in
    rw e (plain_on plain ls ss (both_right (plain p) (all_plain plain ls) a) b)
plain_on plain (Part n ∷ ls) ss a b = plain_on plain ls ss a b

pub plain_behind : {P N : Type 0} (plain : P → Bool) (p : P) (ss : List (Symbol P N)) → all_plain plain (At p ∷ ss) ≡ true → all_plain plain ss ≡ true
plain_behind plain p ss h = both_right (plain p) (all_plain plain ss) h

-- The same of a step

-- what the three tests of `decided` say
pub one_line_is : {P N K : Type 0} (g : Grammar P N K) (every : List K) (follow : N → K → Bool) (n : N) → decided g every follow n ≡ true → one_line_each g every n ≡ true
one_line_is g every follow n h = both_left (one_line_each g every n) (both (end_decided g every follow n) (lines_closed g every follow n)) h

pub end_is : {P N K : Type 0} (g : Grammar P N K) (every : List K) (follow : N → K → Bool) (n : N) → decided g every follow n ≡ true → end_decided g every follow n ≡ true
end_is g every follow n h = both_left (end_decided g every follow n) (lines_closed g every follow n)
    (both_right (one_line_each g every n) (both (end_decided g every follow n) (lines_closed g every follow n)) h)

pub lines_are : {P N K : Type 0} (g : Grammar P N K) (every : List K) (follow : N → K → Bool) (n : N) → decided g every follow n ≡ true → lines_closed g every follow n ≡ true
lines_are g every follow n h = both_right (end_decided g every follow n) (lines_closed g every follow n)
    (both_right (one_line_each g every n) (both (end_decided g every follow n) (lines_closed g every follow n)) h)

pub line_closed : {P N K : Type 0} (g : Grammar P N K) (every : List K) (follow : N → K → Bool) (n : N) (line : Line P N) → decided g every follow n ≡ true
    → Has line (g.lines n) → closed g every follow (follow n) line.1 ≡ true
line_closed g every follow n line h has = all_has (λ line. closed g every follow (follow n) line.1) line (g.lines n) has (lines_are g every follow n h)

-- what is wanted behind a step is good
abbrev pub GoodStep : {P N K : Type 0} → Grammar P N K → (N → K → Bool) → (P → Bool) → Option (Step P N) → Type 0
GoodStep g follow plain None = Unit {0}
GoodStep g follow plain (Some step) = Good g follow plain step.1

good_place : {P N K : Type 0} (g : Grammar P N K) (follow : N → K → Bool) (plain : P → Bool) (p : P) (ss : List (Symbol P N)) (b : Bool)
    → Good g follow plain (At p ∷ ss) → GoodStep g follow plain (taken b p ss)
good_place g follow plain p ss true h = record { fine = h.fine; plain_places = plain_behind plain p ss h.plain_places }
good_place g follow plain p ss false h = tt

good_below : {P N K : Type 0} (g : Grammar P N K) (follow : N → K → Bool) (plain : P → Bool) (b : Bool) (o : Option (Step P N))
    → GoodStep g follow plain o → GoodStep g follow plain (left_out b o)
good_below g follow plain true o h = h
good_below g follow plain false o h = tt

good_line : {P N K : Type 0} {g : Grammar P N K} {every : List K} {follow : N → K → Bool} {plain : P → Bool} {start : List (Symbol P N)} → IsLl g every follow plain start
    → (n : N) (ss : List (Symbol P N)) (line : Line P N) → Good g follow plain (Part n ∷ ss) → Has line (g.lines n) → Good g follow plain (line.1 ++ ss)
good_line {g = g} {every = every} {follow = follow} {plain = plain} ll n ss line h has = record {
  fine = fine_on g every follow ll.place ll.has_every (follow n) line.1 ss (line_closed g every follow n line (ll.each_decided n) has) h.fine.0 h.fine.1;
  plain_places = plain_on plain line.1 ss (all_has (λ line. all_plain plain line.1) line (g.lines n) has (ll.each_plain n)) h.plain_places;
}

good_part : {P N K : Type 0} {g : Grammar P N K} {every : List K} {follow : N → K → Bool} {plain : P → Bool} {start : List (Symbol P N)} → IsLl g every follow plain start
    → (n : N) (ss : List (Symbol P N)) (k : K) (o : Option (Line P N)) (below : Option (Step P N)) → Good g follow plain (Part n ∷ ss) → Found g k (g.lines n) o
    → GoodStep g follow plain below → GoodStep g follow plain (opened o (g.empty n) ss below)
good_part {g = g} {follow = follow} {plain = plain} ll n ss k o below h none more = good_below g follow plain (g.empty n) below more
good_part ll n ss k o below h (one line has fit) more = good_line ll n ss line h has

pub good_step : {P N K : Type 0} {g : Grammar P N K} {every : List K} {follow : N → K → Bool} {plain : P → Bool} {start : List (Symbol P N)} → IsLl g every follow plain start
    → (ss : List (Symbol P N)) (k : K) → Good g follow plain ss → GoodStep g follow plain (next g ss k)
unfolding next
good_step ll [] k h = tt
good_step {g = g} {follow = follow} {plain = plain} ll (At p ∷ ss) k h = good_place g follow plain p ss (g.fits p k) h
good_step {g = g} ll (Part n ∷ ss) k h =
    good_part ll n ss k (line_for g k (g.lines n)) (next g ss k) h (found g k (g.lines n)) (good_step ll ss k (record { fine = h.fine.1; plain_places = h.plain_places }))

-- what is wanted at first is good
append_nil : {X : Type 0} (xs : List X) → xs ++ [] ≡ xs
append_nil [] = refl
append_nil (x ∷ xs) = ap (λ ys. x ∷ ys) (append_nil xs)

pub good_start : {P N K : Type 0} {g : Grammar P N K} {every : List K} {follow : N → K → Bool} {plain : P → Bool} {start : List (Symbol P N)} → IsLl g every follow plain start
    → Good g follow plain start
good_start {g = g} {every = every} {follow = follow} {start = start} ll = record {
  fine = subst (Fine g follow) (append_nil start) (fine_on g every follow ll.place ll.has_every (λ k. false) start [] ll.start_closed (λ k is. is) tt);
  plain_places = ll.start_plain;
}
