-- The machine with a test over events reads exactly the language.
use Rattle.std.proofs.Common.{◌≡◌, ℕ, suc, Bool, true, false, List, [], ◌∷◌, ◌++◌, length, drop, Option, Some, None, refl, sym, ◌∙◌, ap, subst}
use Rattle.std.specs.Prelude.{map, IfSome}
use Rattle.line_grammar.specs.declared.Symbol.{Symbol}
use Rattle.line_grammar.specs.Grammar.{Reads}
use Rattle.line_grammar.specs.Machine.{Step, next, going, run, ends, whole}
use Rattle.line_grammar.specs.Conditions.{all_in}
use Rattle.line_grammar.specs.Language.{Language, events, clean, one_later, first_at, or_end, IsTextFrom, BeginsTextFrom, NoTextGoesOnFrom, EndsFrom, ReadsText, EndsText, IsLanguage}
use Rattle.line_grammar.proofs.Tests.{both_left, both_right}
use Rattle.line_grammar.proofs.Sound.{Takes, next_takes, gives_found}
use Rattle.line_grammar.proofs.Stacks.{Good, GoodStep, good_step, good_start}
use Rattle.line_grammar.proofs.Complete.{Nexts, nexts, reads_ends}
use Rattle.line_grammar.proofs.Made.{Lives, lives}
use Rattle.line_grammar.proofs.Theorems.{gives_only, one_reading}

-- where no event is the first at which the test stands, it stands at none
none_clean_step : (b c : Bool) (o : Option ℕ) → (o ≡ None → c ≡ true) → ◌≡◌ {A = Option ℕ} (elim b [ true ↦ Some 0 | false ↦ one_later o ]) None → elim b [ true ↦ false | false ↦ c ] ≡ true
none_clean_step true c o more e = absurd cc
none_clean_step false c None more e = more refl
none_clean_step false c (Some n) more e = absurd cc

none_clean : {S E : Type 0} (step : S → E → S) (stands : S → E → Bool) (s : S) (es : List E) → first_at step stands s es ≡ None → clean step stands s es ≡ true
none_clean step stands s [] e = refl
none_clean step stands s (x ∷ es) e =
    none_clean_step (stands s x) (clean step stands (step s x) es) (first_at step stands (step s x) es) (none_clean step stands (step s x) es) e

no_end : (o : Option ℕ) (b : Bool) (n : ℕ) → or_end o b n ≡ None → (o ≡ None) × (b ≡ true)
no_end (Some k) b n e = absurd cc
no_end None true n e = (refl, refl)
no_end None false n e = absurd cc

-- where looking ends nowhere, the tokens are a text
pub text_none : {P N K T S : Type 0} (l : Language P N K T S) (ts : List T) (ps : List P) → (run l.grammar l.start (map l.kind ts)).0 ≡ ps
    → or_end (first_at l.step l.stands l.first (events ps ts)) (whole l.grammar (run l.grammar l.start (map l.kind ts))) (length ps) ≡ None
    → ReadsText l ps ts
text_none l ts ps is e =
    let none = no_end (first_at l.step l.stands l.first (events ps ts)) (whole l.grammar (run l.grammar l.start (map l.kind ts))) (length ps) e in
    (rw (← is) (gives_found l.grammar l.start (map l.kind ts) none.1), none_clean l.step l.stands l.first (events ps ts) none.0)

-- What completes a text that was begun

tokens_of : {P N K T S : Type 0} (l : Language P N K T S) (token : K → T) → ((k : K) → l.kind (token k) ≡ k) → (ks : List K) → map l.kind (map token ks) ≡ ks
tokens_of l token is [] = refl
tokens_of l token is (k ∷ ks) = rw (is k) (ap (λ rest. k ∷ rest) (tokens_of l token is ks))

clean_case : (a b : Bool) → a ≡ false → b ≡ true → elim a [ true ↦ false | false ↦ b ] ≡ true
clean_case true b e h = absurd cc
clean_case false b e h = h

plain_clean : {P N K T S : Type 0} (l : Language P N K T S) (plain : P → Bool) (token : K → T) → ((s : S) (p : P) (k : K) → plain p ≡ true → l.stands s (p, token k) ≡ false)
    → (s : S) (ps : List P) (ks : List K) → all_in plain ps ≡ true → clean l.step l.stands s (events ps (map token ks)) ≡ true
plain_clean l plain token never s [] ks h = refl
plain_clean l plain token never s (p ∷ ps) [] h = refl
plain_clean l plain token never s (p ∷ ps) (k ∷ ks) h =
    clean_case (l.stands s (p, token k)) (clean l.step l.stands (l.step s (p, token k)) (events ps (map token ks))) (never s p k (both_left (plain p) (all_in plain ps) h))
    (plain_clean l plain token never (l.step s (p, token k)) ps ks (both_right (plain p) (all_in plain ps) h))

begun_here : {P N K T S : Type 0} {l : Language P N K T S} {every : List K} {follow : N → K → Bool} {plain : P → Bool} → IsLanguage l every follow plain
    → (ss : List (Symbol P N)) (s : S) → Good l.grammar follow plain ss → BeginsTextFrom l ss s []
begun_here {P = P} {K = K} {l = l} {plain = plain} is ss s good =
    let found : Lives l.grammar plain ss = lives is.ll ss good.plain_places in
    let R : List K → Type 0 = λ ks. Reads l.grammar ss found.places ks in (
      map is.token found.kinds,
      (
        found.places,
        (
          subst R (sym (tokens_of l is.token is.token_is found.kinds)) found.reads,
          plain_clean l plain is.token is.never s found.places found.kinds found.plain_ones,
        ),
      ),
    )

-- With which tokens no text goes on

no_step : {P N K T S : Type 0} (l : Language P N K T S) (follow : N → K → Bool) (ss : List (Symbol P N)) (t : T) (ps : List P) (ts : List T)
    → next l.grammar ss (l.kind t) ≡ None → Nexts l.grammar follow ss ps (l.kind t ∷ map l.kind ts) → ⊥
no_step l follow ss t [] ts e h = h
no_step l follow ss t (p ∷ ps) ts e h = let is = h.1 in absurd cc

-- behind the step stands a text
behind_clean : (a b : Bool) → a ≡ false → elim a [ true ↦ false | false ↦ b ] ≡ true → b ≡ true
behind_clean true b e h = absurd cc
behind_clean false b e h = h

behind_step : {P N K T S : Type 0} (l : Language P N K T S) (follow : N → K → Bool) (ss : List (Symbol P N)) (s : S) (t : T) (step : Step P N) (ps : List P) (ts : List T)
    → next l.grammar ss (l.kind t) ≡ Some step → l.stands s (step.0, t) ≡ false → Nexts l.grammar follow ss ps (l.kind t ∷ map l.kind ts)
    → clean l.step l.stands s (events ps (t ∷ ts)) ≡ true → IsTextFrom l step.1 (l.step s (step.0, t)) ts
behind_step l follow ss s t step [] ts e stays h c = absurd h
behind_step {P = P} {N = N} l follow ss s t step (p ∷ ps) ts e stays h c =
    let same : Some step ≡ Some (p, h.0) = sym e ∙ h.1 in
    let is : step ≡ (p, h.0) = cc in
    let Stays : Step P N → Type 0 = λ x. l.stands s (x.0, t) ≡ false in
    let R : Step P N → Type 0 = λ x. IsTextFrom l x.1 (l.step s (x.0, t)) ts in
    subst R (sym is) (ps, (h.2, behind_clean (l.stands s (p, t)) (clean l.step l.stands (l.step s (p, t)) (events ps ts)) (subst Stays is stays) c))

-- the test stands at the step
stopped_clean : (a b : Bool) → a ≡ true → elim a [ true ↦ false | false ↦ b ] ≡ true → ⊥
stopped_clean true b e h = absurd cc
stopped_clean false b e h = absurd cc

stopped_step : {P N K T S : Type 0} (l : Language P N K T S) (follow : N → K → Bool) (ss : List (Symbol P N)) (s : S) (t : T) (step : Step P N) (ps : List P) (ts : List T)
    → next l.grammar ss (l.kind t) ≡ Some step → l.stands s (step.0, t) ≡ true → Nexts l.grammar follow ss ps (l.kind t ∷ map l.kind ts)
    → clean l.step l.stands s (events ps (t ∷ ts)) ≡ true → ⊥
stopped_step l follow ss s t step [] ts e stands h c = h
stopped_step {P = P} {N = N} l follow ss s t step (p ∷ ps) ts e stands h c =
    let same : Some step ≡ Some (p, h.0) = sym e ∙ h.1 in
    let is : step ≡ (p, h.0) = cc in
    let Stands : Step P N → Type 0 = λ x. l.stands s (x.0, t) ≡ true in
    stopped_clean (l.stands s (p, t)) (clean l.step l.stands (l.step s (p, t)) (events ps ts)) (subst Stands is stands) c

none_later : {P N K T S : Type 0} {l : Language P N K T S} {every : List K} {follow : N → K → Bool} {plain : P → Bool} → IsLanguage l every follow plain
    → (ss : List (Symbol P N)) (s : S) (t : T) (step : Step P N) → Good l.grammar follow plain ss → next l.grammar ss (l.kind t) ≡ Some step
    → l.stands s (step.0, t) ≡ false → (front rest : List T) → NoTextGoesOnFrom l step.1 (l.step s (step.0, t)) front rest
    → NoTextGoesOnFrom l ss s (t ∷ front) rest
none_later {l = l} {follow = follow} is ss s t step good e stays front [] none = λ b.
    none (behind_step l follow ss s t step b.0 front e stays (nexts is.ll ss b.0 (l.kind t ∷ map l.kind front) b.1.0 good.fine) b.1.1)
none_later {l = l} {follow = follow} is ss s t step good e stays front (u ∷ rest) none = λ b.
    none (
      b.0,
      behind_step l follow ss s t step b.1.0 ((front ++ u ∷ []) ++ b.0) e stays
          (nexts is.ll ss b.1.0 (l.kind t ∷ map l.kind ((front ++ u ∷ []) ++ b.0)) b.1.1.0 good.fine) b.1.1.1,
    )

-- where looking ends
abbrev pub EndsSo : {P N K T S : Type 0} → Language P N K T S → List (Symbol P N) → S → List T → List P → Bool → Type 0
EndsSo l ss s ts ps whole_one = IfSome (or_end (first_at l.step l.stands s (events ps ts)) whole_one (length ps)) (λ n. EndsFrom l ss s ts (drop n ts))

ends_later : {P N K T S : Type 0} {l : Language P N K T S} {every : List K} {follow : N → K → Bool} {plain : P → Bool} → IsLanguage l every follow plain
    → (ss : List (Symbol P N)) (s : S) (t : T) (step : Step P N) → Good l.grammar follow plain ss → next l.grammar ss (l.kind t) ≡ Some step
    → Takes l.grammar ss (l.kind t) (Some step) → l.stands s (step.0, t) ≡ false
    → (ts rest : List T) → EndsFrom l step.1 (l.step s (step.0, t)) ts rest → EndsFrom l ss s (t ∷ ts) rest
ends_later {l = l} is ss s t step good e takes stays ts rest h = record {
  front = t ∷ h.front;
  is = ap (λ xs. t ∷ xs) h.is;
  begun = (
    h.begun.0,
    (
      step.0 ∷ h.begun.1.0,
      (
        takes h.begun.1.0 (map l.kind (h.front ++ h.begun.0)) h.begun.1.1.0,
        clean_case (l.stands s (step.0, t)) (clean l.step l.stands (l.step s (step.0, t)) (events h.begun.1.0 (h.front ++ h.begun.0))) stays h.begun.1.1.1,
      ),
    ),
  );
  none = none_later is ss s t step good e stays h.front rest h.none;
}

or_end_later : (o : Option ℕ) (b : Bool) (n : ℕ) (Q R : ℕ → Type 0) → ((k : ℕ) → Q k → R (suc k)) → IfSome (or_end o b n) Q → IfSome (or_end (one_later o) b (suc n)) R
or_end_later (Some k) b n Q R more h = more k h
or_end_later None true n Q R more h = tt
or_end_later None false n Q R more h = more n h

ends_step : {P N K T S : Type 0} {l : Language P N K T S} {every : List K} {follow : N → K → Bool} {plain : P → Bool} → IsLanguage l every follow plain
    → (ss : List (Symbol P N)) (s : S) (t : T) (ts : List T) (step : Step P N) → Good l.grammar follow plain ss → next l.grammar ss (l.kind t) ≡ Some step
    → Takes l.grammar ss (l.kind t) (Some step)
    → (ps : List P) (b stands : Bool) → l.stands s (step.0, t) ≡ stands → EndsSo l step.1 (l.step s (step.0, t)) ts ps b
    → IfSome (or_end (elim stands [ true ↦ Some 0 | false ↦ one_later (first_at l.step l.stands (l.step s (step.0, t)) (events ps ts)) ]) b (suc (length ps)))
    (λ n. EndsFrom l ss s (t ∷ ts) (drop n (t ∷ ts)))
ends_step {l = l} {follow = follow} is ss s t ts step good e takes ps b true stands h = record {
  front = [];
  is = refl;
  begun = begun_here is ss s good;
  none = λ x. stopped_step l follow ss s t step x.1.0 x.0 e stands (nexts is.ll ss x.1.0 (l.kind t ∷ map l.kind x.0) x.1.1.0 good.fine) x.1.1.1;
}
ends_step {l = l} is ss s t ts step good e takes ps b false stays h =
    or_end_later (first_at l.step l.stands (l.step s (step.0, t)) (events ps ts)) b (length ps)
    (λ n. EndsFrom l step.1 (l.step s (step.0, t)) ts (drop n ts)) (λ n. EndsFrom l ss s (t ∷ ts) (drop n (t ∷ ts)))
    (λ k ends_there. ends_later is ss s t step good e takes stays ts (drop k ts) ends_there) h

ends_case : {P N K T S : Type 0} {l : Language P N K T S} {every : List K} {follow : N → K → Bool} {plain : P → Bool} → IsLanguage l every follow plain
    → (ss : List (Symbol P N)) (s : S) (t : T) (ts : List T) → Good l.grammar follow plain ss → (o : Option (Step P N)) → next l.grammar ss (l.kind t) ≡ o
    → Takes l.grammar ss (l.kind t) o → GoodStep l.grammar follow plain o
    → ((more : List (Symbol P N)) (s : S) → Good l.grammar follow plain more
    → EndsSo l more s ts (run l.grammar more (map l.kind ts)).0 (whole l.grammar (run l.grammar more (map l.kind ts))))
    → EndsSo l ss s (t ∷ ts) (going o (λ more. run l.grammar more (map l.kind ts))).0 (whole l.grammar (going o (λ more. run l.grammar more (map l.kind ts))))
ends_case {l = l} {follow = follow} is ss s t ts good None e takes behind more = record {
  front = [];
  is = refl;
  begun = begun_here is ss s good;
  none = λ x. no_step l follow ss t x.1.0 x.0 e (nexts is.ll ss x.1.0 (l.kind t ∷ map l.kind x.0) x.1.1.0 good.fine);
}
ends_case {l = l} is ss s t ts good (Some step) e takes behind more =
    ends_step is ss s t ts step good e takes (run l.grammar step.1 (map l.kind ts)).0 (whole l.grammar (run l.grammar step.1 (map l.kind ts)))
    (l.stands s (step.0, t)) refl (more step.1 (l.step s (step.0, t)) behind)

ends_nothing : {P N K T S : Type 0} {l : Language P N K T S} {every : List K} {follow : N → K → Bool} {plain : P → Bool} → IsLanguage l every follow plain
    → (ss : List (Symbol P N)) (s : S) → Good l.grammar follow plain ss → (b : Bool) → ends l.grammar ss ≡ b → EndsSo l ss s [] [] b
ends_nothing is ss s good true e = tt
ends_nothing {l = l} is ss s good false e = record {
  front = [];
  is = refl;
  begun = begun_here is ss s good;
  none = λ x. let t : ends l.grammar ss ≡ true = reads_ends l.grammar ss x.0 x.1.0 in absurd cc;
}

text_ends_from : {P N K T S : Type 0} {l : Language P N K T S} {every : List K} {follow : N → K → Bool} {plain : P → Bool} → IsLanguage l every follow plain
    → (ss : List (Symbol P N)) (s : S) (ts : List T) → Good l.grammar follow plain ss
    → EndsSo l ss s ts (run l.grammar ss (map l.kind ts)).0 (whole l.grammar (run l.grammar ss (map l.kind ts)))
unfolding run
text_ends_from {l = l} is ss s [] good = ends_nothing is ss s good (ends l.grammar ss) refl
text_ends_from {l = l} is ss s (t ∷ ts) good =
    ends_case is ss s t ts good (next l.grammar ss (l.kind t)) refl (next_takes l.grammar ss (l.kind t)) (good_step is.ll ss (l.kind t) good)
    (λ more state fine. text_ends_from is more state ts fine)

-- where looking ends, no text goes on
pub text_ends : {P N K T S : Type 0} {l : Language P N K T S} {every : List K} {follow : N → K → Bool} {plain : P → Bool} → IsLanguage l every follow plain
    → (ts : List T) (ps : List P) → (run l.grammar l.start (map l.kind ts)).0 ≡ ps
    → IfSome (or_end (first_at l.step l.stands l.first (events ps ts)) (whole l.grammar (run l.grammar l.start (map l.kind ts))) (length ps)) (λ n. EndsText l ts (drop n ts))
text_ends {l = l} is ts ps same = rw (← same) (text_ends_from is l.start l.first ts (good_start is.ll))

-- Each text is found

clean_none_step : (b c : Bool) (o : Option ℕ) → (c ≡ true → o ≡ None) → elim b [ true ↦ false | false ↦ c ] ≡ true → ◌≡◌ {A = Option ℕ} (elim b [ true ↦ Some 0 | false ↦ one_later o ]) None
clean_none_step true c o more h = absurd cc
clean_none_step false c o more h = rw (more h) refl

clean_none : {S E : Type 0} (step : S → E → S) (stands : S → E → Bool) (s : S) (es : List E) → clean step stands s es ≡ true → first_at step stands s es ≡ None
clean_none step stands s [] h = refl
clean_none step stands s (x ∷ es) h =
    clean_none_step (stands s x) (clean step stands (step s x) es) (first_at step stands (step s x) es) (clean_none step stands (step s x) es) h

-- a text is found, at its places
pub text_only : {P N K T S : Type 0} {l : Language P N K T S} {every : List K} {follow : N → K → Bool} {plain : P → Bool} → IsLanguage l every follow plain
    → (ts : List T) (ps qs : List P) → ReadsText l ps ts → (run l.grammar l.start (map l.kind ts)).0 ≡ qs
    → (qs ≡ ps) × (or_end (first_at l.step l.stands l.first (events qs ts)) (whole l.grammar (run l.grammar l.start (map l.kind ts))) (length qs) ≡ None)
text_only {l = l} is ts ps qs reads same =
    let found = gives_only is.ll ps (map l.kind ts) reads.0 in
    let e : qs ≡ ps = sym same ∙ found.0 in
    (e, rw (e, found.1, clean_none l.step l.stands l.first (events ps ts) reads.1) refl)

-- and in one way
pub one_text : {P N K T S : Type 0} {l : Language P N K T S} {every : List K} {follow : N → K → Bool} {plain : P → Bool} → IsLanguage l every follow plain
    → (ts : List T) (ps qs : List P) → ReadsText l ps ts → ReadsText l qs ts → ps ≡ qs
one_text {l = l} is ts ps qs r s = one_reading is.ll ps qs (map l.kind ts) r.0 s.0
