-- The machine reads exactly the grammar.
use Rattle.std.proofs.Common.{◌≡◌, Bool, true, false, List, [], ◌∷◌, ◌++◌, length, drop, Option, Some, None, refl, sym, ◌∙◌, ap, subst}
use Rattle.line_grammar.specs.declared.Symbol.{Symbol}
use Rattle.line_grammar.specs.Grammar.{Grammar, Reads, Sentence, Begins, NoneGoesOn, IsExpected}
use Rattle.line_grammar.specs.Machine.{Step, next, going, run, ends, whole}
use Rattle.line_grammar.specs.Conditions.{IsLl}
use Rattle.line_grammar.proofs.Sound.{Takes, next_takes}
use Rattle.line_grammar.proofs.Stacks.{Good, GoodStep, good_step, good_start}
use Rattle.line_grammar.proofs.Complete.{Nexts, nexts, only}
use Rattle.line_grammar.proofs.Made.{lives}

-- each reading is found: the run has its places, and is whole
pub gives_only : {P N K : Type 0} {g : Grammar P N K} {every : List K} {follow : N → K → Bool} {plain : P → Bool} {start : List (Symbol P N)} → IsLl g every follow plain start
    → (ps : List P) (ks : List K) → Reads g start ps ks → ((run g start ks).0 ≡ ps) × (whole g (run g start ks) ≡ true)
gives_only {start = start} ll ps ks r = let good = good_start ll in only ll start ps ks r good.fine

-- a text is read in one way
pub one_reading : {P N K : Type 0} {g : Grammar P N K} {every : List K} {follow : N → K → Bool} {plain : P → Bool} {start : List (Symbol P N)} → IsLl g every follow plain start
    → (ps qs : List P) (ks : List K) → Reads g start ps ks → Reads g start qs ks → ps ≡ qs
one_reading ll ps qs ks r s = let a = gives_only ll ps ks r in let b = gives_only ll qs ks s in sym a.0 ∙ b.0

-- Refusals

begun_here : {P N K : Type 0} {g : Grammar P N K} {every : List K} {follow : N → K → Bool} {plain : P → Bool} {start : List (Symbol P N)} → IsLl g every follow plain start
    → (ss : List (Symbol P N)) → Good g follow plain ss → Begins g ss []
begun_here ll ss good = let l = lives ll ss good.plain_places in (l.kinds, (l.places, l.reads))

-- a sentence that goes on with a token has a step for it
no_step : {P N K : Type 0} (g : Grammar P N K) (follow : N → K → Bool) (ss : List (Symbol P N)) (k : K) (ps : List P) (ks : List K) → next g ss k ≡ None
    → Nexts g follow ss ps (k ∷ ks) → ⊥
no_step g follow ss k [] ks e h = h
no_step g follow ss k (p ∷ ps) ks e h = let is = h.1 in absurd cc

behind_step : {P N K : Type 0} (g : Grammar P N K) (follow : N → K → Bool) (ss : List (Symbol P N)) (k : K) (step : Step P N) (ps : List P) (ks : List K) → next g ss k ≡ Some step
    → Nexts g follow ss ps (k ∷ ks) → Sentence g step.1 ks
behind_step g follow ss k step [] ks e h = absurd h
behind_step {P = P} {N = N} {K = K} g follow ss k step (p ∷ ps) ks e h =
    let same : Some step ≡ Some (p, h.0) = sym e ∙ h.1 in
    let is : step ≡ (p, h.0) = cc in
    let R : Step P N → Type 0 = λ s. Sentence g s.1 ks in
    subst R (sym is) (ps, h.2)

none_later : {P N K : Type 0} {g : Grammar P N K} {every : List K} {follow : N → K → Bool} {plain : P → Bool} {start : List (Symbol P N)} → IsLl g every follow plain start
    → (ss : List (Symbol P N)) (k : K) (step : Step P N) → Good g follow plain ss → next g ss k ≡ Some step → (front rest : List K) → NoneGoesOn g step.1 front rest
    → NoneGoesOn g ss (k ∷ front) rest
none_later {g = g} {follow = follow} ll ss k step good e front [] none = λ b. none (behind_step g follow ss k step b.0 front e (nexts ll ss b.0 (k ∷ front) b.1 good.fine))
none_later {g = g} {follow = follow} ll ss k step good e front (t ∷ rest) none = λ b.
    none (b.0, behind_step g follow ss k step b.1.0 ((front ++ t ∷ []) ++ b.0) e (nexts ll ss b.1.0 (k ∷ ((front ++ t ∷ []) ++ b.0)) b.1.1 good.fine))

expected_step : {P N K : Type 0} {g : Grammar P N K} {every : List K} {follow : N → K → Bool} {plain : P → Bool} {start : List (Symbol P N)} → IsLl g every follow plain start
    → (ss : List (Symbol P N)) (k : K) (ks : List K) → Good g follow plain ss → (o : Option (Step P N)) → next g ss k ≡ o → Takes g ss k o → GoodStep g follow plain o
    → ((more : List (Symbol P N)) → Good g follow plain more → whole g (run g more ks) ≡ false → IsExpected g more ks (drop (length (run g more ks).0) ks))
    → whole g (going o (λ more. run g more ks)) ≡ false
    → IsExpected g ss (k ∷ ks) (drop (length (going o (λ more. run g more ks)).0) (k ∷ ks))
expected_step {g = g} {follow = follow} ll ss k ks good None e takes behind more is = record {
  front = [];
  is = refl;
  begun = begun_here ll ss good;
  none = λ b. no_step g follow ss k b.1.0 b.0 e (nexts ll ss b.1.0 (k ∷ b.0) b.1.1 good.fine);
}
expected_step {g = g} {follow = follow} ll ss k ks good (Some step) e takes behind more is = later (more step.1 behind is)
  where
    later : IsExpected g step.1 ks (drop (length (run g step.1 ks).0) ks) → IsExpected g ss (k ∷ ks) (drop (length (run g step.1 ks).0) ks)
    later h = record {
      front = k ∷ h.front;
      is = ap (λ xs. k ∷ xs) h.is;
      begun = (h.begun.0, (step.0 ∷ h.begun.1.0, takes h.begun.1.0 (h.front ++ h.begun.0) h.begun.1.1));
      none = none_later ll ss k step good e h.front (drop (length (run g step.1 ks).0) ks) h.none;
    }

expected_from : {P N K : Type 0} {g : Grammar P N K} {every : List K} {follow : N → K → Bool} {plain : P → Bool} {start : List (Symbol P N)} → IsLl g every follow plain start
    → (ss : List (Symbol P N)) (ks : List K) → Good g follow plain ss → whole g (run g ss ks) ≡ false → IsExpected g ss ks (drop (length (run g ss ks).0) ks)
unfolding run
expected_from {g = g} ll ss [] good is = record {
  front = [];
  is = refl;
  begun = begun_here ll ss good;
  none = λ b. let h = only ll ss b.0 [] b.1 good.fine in let t : ends g ss ≡ true = h.1 in absurd cc;
}
expected_from {g = g} ll ss (k ∷ ks) good is =
    expected_step ll ss k ks good (next g ss k) refl (next_takes g ss k) (good_step ll ss k good) (λ more fine wrong. expected_from ll more ks fine wrong) is

-- a refusal is at the first token with which no sentence goes on
pub gives_expected : {P N K : Type 0} {g : Grammar P N K} {every : List K} {follow : N → K → Bool} {plain : P → Bool} {start : List (Symbol P N)} → IsLl g every follow plain start
    → (ks : List K) → whole g (run g start ks) ≡ false → IsExpected g start ks (drop (length (run g start ks).0) ks)
gives_expected {start = start} ll ks is = expected_from ll start ks (good_start ll) is

-- the places of the tokens before do not depend on what follows
front_step : {P N K : Type 0} (g : Grammar P N K) (ks more : List K) (wanted : List (Symbol P N)) (o : Option (Step P N))
    → ((ss : List (Symbol P N)) → (run g ss ks).1 ≡ Some wanted → (run g ss (ks ++ more)).0 ≡ (run g ss ks).0 ++ (run g wanted more).0)
    → (going o (λ ss. run g ss ks)).1 ≡ Some wanted → (going o (λ ss. run g ss (ks ++ more))).0 ≡ (going o (λ ss. run g ss ks)).0 ++ (run g wanted more).0
front_step g ks more wanted None h is = absurd cc
front_step g ks more wanted (Some step) h is = ap (λ ps. step.0 ∷ ps) (h step.1 is)

pub run_front : {P N K : Type 0} (g : Grammar P N K) (ss wanted : List (Symbol P N)) (front more : List K) → (run g ss front).1 ≡ Some wanted
    → (run g ss (front ++ more)).0 ≡ (run g ss front).0 ++ (run g wanted more).0
unfolding run
run_front g ss wanted [] more is = let e : ss ≡ wanted = cc in rw e refl
run_front g ss wanted (k ∷ front) more is = front_step g front more wanted (next g ss k) (λ below e. run_front g below wanted front more e) is
