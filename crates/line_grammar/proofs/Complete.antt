-- What is read is what the machine takes.
use Rattle.std.proofs.Common.{◌≡◌, Bool, true, false, not, List, [], ◌∷◌, ◌++◌, Option, Some, None, refl, sym, ap}
use Rattle.std.specs.Prelude.{if◌then◌else◌}
use Rattle.line_grammar.specs.declared.Symbol.{Symbol}
use Rattle.line_grammar.specs.declared.Symbol.TheVariants.{At, Part}
use Rattle.line_grammar.specs.Grammar.{Line, Grammar, Has, here, later, Reads, done, takes, opens, leaves}
use Rattle.line_grammar.specs.Machine.{line_for, next, run, ends, whole}
use Rattle.line_grammar.specs.Conditions.{implies, all_in, heads, one_head, IsLl}
use Rattle.line_grammar.proofs.Tests.{implied, not_true, all_at, has_heads, FirstOf, first_reads}
use Rattle.line_grammar.proofs.Stacks.{Fine, one_line_is, end_is, line_closed, fine_on}

-- the line whose head fits is the one that is found, where one alone does
fits_not : {P N K : Type 0} (g : Grammar P N K) (k : K) (line : Line P N) (lines : List (Line P N)) (b : Bool) → elim b [ true ↦ not (heads g k lines) | false ↦ one_head g k lines ] ≡ true
    → Has line lines → g.fits line.0 k ≡ true → (b ≡ false) × (one_head g k lines ≡ true)
fits_not g k line lines true one has fit =
    let e : heads g k lines ≡ true = has_heads g k line lines has fit in
    let f : heads g k lines ≡ false = not_true (heads g k lines) one in absurd cc
fits_not g k line lines false one has fit = (refl, one)

pub line_is : {P N K : Type 0} (g : Grammar P N K) (k : K) (line : Line P N) (lines : List (Line P N)) → Has line lines → one_head g k lines ≡ true → g.fits line.0 k ≡ true
    → line_for g k lines ≡ Some line
line_is g k line lines (here ls) one fit = rw fit refl
line_is g k line lines (later l {xs = ls} has) one fit =
    let h : (g.fits l.0 k ≡ false) × (one_head g k ls ≡ true) = fits_not g k line ls (g.fits l.0 k) one has fit in
    rw h.0 (line_is g k line ls has h.1 fit)

-- no line is found where none begins with the kind
pub no_line : {P N K : Type 0} (g : Grammar P N K) (k : K) (lines : List (Line P N)) → heads g k lines ≡ false → line_for g k lines ≡ None
no_line g k [] h = refl
no_line {P = P} {N = N} g k (line ∷ lines) h = cases (g.fits line.0 k) h (no_line g k lines)
  where
    cases : (b : Bool) → elim b [ true ↦ true | false ↦ heads g k lines ] ≡ false → (heads g k lines ≡ false → line_for g k lines ≡ None)
        → ◌≡◌ {A = Option (Line P N)} (if b then Some line else line_for g k lines) None
    cases true h more = absurd cc
    cases false h more = more h

-- the first token of a reading is taken, at its place, and the rest is a reading of what is wanted then
abbrev pub Nexts : {P N K : Type 0} → Grammar P N K → (N → K → Bool) → List (Symbol P N) → List P → List K → Type 0
Nexts g follow ss ps [] = ps ≡ []
Nexts g follow ss [] (k ∷ ks) = ⊥
Nexts {P = P} {N = N} g follow ss (p ∷ ps) (k ∷ ks) = (more : List (Symbol P N)) × (next g ss k ≡ Some (p, more)) × Reads g more ps ks × Fine g follow more

nexts_place : {P N K : Type 0} (g : Grammar P N K) (follow : N → K → Bool) (p : P) (k : K) (ss : List (Symbol P N)) (ps : List P) (ks : List K) → g.fits p k ≡ true
    → Reads g ss ps ks → Fine g follow ss → Nexts g follow (At p ∷ ss) (p ∷ ps) (k ∷ ks)
unfolding next
nexts_place g follow p k ss ps ks fit r fine = (ss, rw fit refl, r, fine)

nexts_line : {P N K : Type 0} {g : Grammar P N K} {every : List K} {follow : N → K → Bool} {plain : P → Bool} {start : List (Symbol P N)} → IsLl g every follow plain start
    → (n : N) (line : Line P N) (k : K) (ss : List (Symbol P N)) (ps : List P) (ks : List K) → Has line (g.lines n) → g.fits line.0 k ≡ true
    → Reads g (line.1 ++ ss) ps ks → Fine g follow (Part n ∷ ss) → Nexts g follow (Part n ∷ ss) (line.0 ∷ ps) (k ∷ ks)
unfolding next
nexts_line {g = g} {every = every} {follow = follow} ll n line k ss ps ks has fit r fine =
    let one : one_head g k (g.lines n) ≡ true =
    all_at (λ k. one_head g k (g.lines n)) k (ll.place k) every (one_line_is g every follow n (ll.each_decided n)) (ll.has_every k) in
    let is : line_for g k (g.lines n) ≡ Some line = line_is g k line (g.lines n) has one fit in (
      line.1 ++ ss,
      rw is refl,
      r,
      fine_on g every follow ll.place ll.has_every (follow n) line.1 ss (line_closed g every follow n line (ll.each_decided n) has) fine.0 fine.1,
    )

-- a part that is left out takes no token that begins what follows
no_line_there : {P N K : Type 0} {g : Grammar P N K} {every : List K} {follow : N → K → Bool} {plain : P → Bool} {start : List (Symbol P N)} → IsLl g every follow plain start
    → (n : N) (k : K) → g.empty n ≡ true → follow n k ≡ true → line_for g k (g.lines n) ≡ None
no_line_there {g = g} {every = every} {follow = follow} ll n k e follows =
    let all : all_in (λ k. implies (follow n k) (not (heads g k (g.lines n)))) every ≡ true =
    implied (g.empty n) (all_in (λ k. implies (follow n k) (not (heads g k (g.lines n)))) every) (end_is g every follow n (ll.each_decided n)) e in
    let here_is : implies (follow n k) (not (heads g k (g.lines n))) ≡ true =
    all_at (λ k. implies (follow n k) (not (heads g k (g.lines n)))) k (ll.place k) every all (ll.has_every k) in
    no_line g k (g.lines n) (not_true (heads g k (g.lines n)) (implied (follow n k) (not (heads g k (g.lines n))) here_is follows))

nexts_left : {P N K : Type 0} {g : Grammar P N K} {every : List K} {follow : N → K → Bool} {plain : P → Bool} {start : List (Symbol P N)} → IsLl g every follow plain start
    → (n : N) (ss : List (Symbol P N)) (ps : List P) (ks : List K) → g.empty n ≡ true → Fine g follow (Part n ∷ ss) → FirstOf g ss ks → Nexts g follow ss ps ks
    → Nexts g follow (Part n ∷ ss) ps ks
unfolding next
nexts_left ll n ss ps [] e fine is h = h
nexts_left ll n ss [] (k ∷ ks) e fine is h = h
nexts_left {g = g} ll n ss (p ∷ ps) (k ∷ ks) e fine is h =
    let none : line_for g k (g.lines n) ≡ None = no_line_there ll n k e (fine.0 k is) in
    (h.0, rw (none, e) h.1, h.2, h.3)

pub nexts : {P N K : Type 0} {g : Grammar P N K} {every : List K} {follow : N → K → Bool} {plain : P → Bool} {start : List (Symbol P N)} → IsLl g every follow plain start
    → (ss : List (Symbol P N)) (ps : List P) (ks : List K) → Reads g ss ps ks → Fine g follow ss → Nexts g follow ss ps ks
nexts ll ss ps ks done fine = refl
nexts {g = g} {follow = follow} ll ss ps ks (takes p k {ss = below} {ps = qs} {ks = ls} fit r) fine = nexts_place g follow p k below qs ls fit r fine
nexts ll ss ps ks (opens n line k {ss = below} {ps = qs} {ks = ls} has fit r) fine = nexts_line ll n line k below qs ls has fit r fine
nexts {g = g} ll ss ps ks (leaves n {ss = below} {ps = qs} {ks = ls} e r) fine =
    nexts_left ll n below qs ls e fine (first_reads g below qs ls r) (nexts ll below qs ls r fine.1)

-- what is no tokens may be left out
EndsNow : {P N K : Type 0} → Grammar P N K → List (Symbol P N) → List K → Type 0
EndsNow g ss [] = ends g ss ≡ true
EndsNow g ss (k ∷ ks) = Unit {0}

ends_left : {P N K : Type 0} (g : Grammar P N K) (n : N) (ss : List (Symbol P N)) (ks : List K) → g.empty n ≡ true → EndsNow g ss ks → EndsNow g (Part n ∷ ss) ks
unfolding EndsNow
ends_left g n ss [] e h = rw (e, h) refl
ends_left g n ss (k ∷ ks) e h = tt

ends_now : {P N K : Type 0} (g : Grammar P N K) (ss : List (Symbol P N)) (ps : List P) (ks : List K) → Reads g ss ps ks → EndsNow g ss ks
unfolding EndsNow
ends_now g ss ps ks done = refl
ends_now g ss ps ks (takes p k fit r) = tt
ends_now g ss ps ks (opens n line k has fit r) = tt
ends_now g ss ps ks (leaves n {ss = below} {ps = qs} {ks = ls} e r) = ends_left g n below ls e (ends_now g below qs ls r)

pub reads_ends : {P N K : Type 0} (g : Grammar P N K) (ss : List (Symbol P N)) (ps : List P) → Reads g ss ps [] → ends g ss ≡ true
unfolding EndsNow
reads_ends g ss ps r = ends_now g ss ps [] r

-- each reading is found
only_step : {P N K : Type 0} {g : Grammar P N K} {every : List K} {follow : N → K → Bool} {plain : P → Bool} {start : List (Symbol P N)} → IsLl g every follow plain start
    → (ss : List (Symbol P N)) (ps : List P) (k : K) (ks : List K) → Nexts g follow ss ps (k ∷ ks)
    → ((more : List (Symbol P N)) (qs : List P) → Reads g more qs ks → Fine g follow more → ((run g more ks).0 ≡ qs) × (whole g (run g more ks) ≡ true))
    → ((run g ss (k ∷ ks)).0 ≡ ps) × (whole g (run g ss (k ∷ ks)) ≡ true)
unfolding run
only_step ll ss [] k ks h more = absurd h
only_step ll ss (p ∷ ps) k ks h more =
    let rest = more h.0 ps h.2 h.3 in rw h.1 (ap (λ qs. p ∷ qs) rest.0, rest.1)

pub only : {P N K : Type 0} {g : Grammar P N K} {every : List K} {follow : N → K → Bool} {plain : P → Bool} {start : List (Symbol P N)} → IsLl g every follow plain start
    → (ss : List (Symbol P N)) (ps : List P) (ks : List K) → Reads g ss ps ks → Fine g follow ss → ((run g ss ks).0 ≡ ps) × (whole g (run g ss ks) ≡ true)
unfolding run
only {g = g} ll ss ps [] r fine = (sym (nexts ll ss ps [] r fine), reads_ends g ss ps r)
only ll ss ps (k ∷ ks) r fine = only_step ll ss ps k ks (nexts ll ss ps (k ∷ ks) r fine) (λ more qs s f. only ll more qs ks s f)
