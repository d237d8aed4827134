-- A run of the machine, step by step, over any grammar.
use Rattle.std.proofs.Common.{◌≡◌, false, List, [], ◌∷◌, ◌++◌, Some, None, refl, append_assoc}
use Rattle.std.proofs.lemmas.List.{append-nil}
use Rattle.line_grammar.specs.declared.Symbol.{Symbol}
use Rattle.line_grammar.specs.Grammar.{Grammar}
use Rattle.line_grammar.specs.Machine.{Outcome, next, run, with_front, whole, ends}

-- a step
pub goes_on : {P N K : Type 0} (g : Grammar P N K) (places : List P) (ss more : List (Symbol P N)) (k : K) (ks : List K) (p : P) (r : Outcome P N)
    → next g ss k ≡ Some (p, more) → with_front places (run g ss (k ∷ ks)) ≡ r → with_front (places ++ p ∷ []) (run g more ks) ≡ r
unfolding run
goes_on g places ss more k ks p r e h = rw append_assoc (rw e at h)

-- a token that is not taken
pub stuck : {P N K : Type 0} (g : Grammar P N K) (places : List P) (ss : List (Symbol P N)) (k : K) (ks : List K) (r : Outcome P N)
    → next g ss k ≡ None → with_front places (run g ss (k ∷ ks)) ≡ r → (r.0 ≡ places) × (whole g r ≡ false)
unfolding run
stuck g places ss k ks r e h =
    let is : with_front places ([], None) ≡ r = rw e at h in
    rw (← is) (append-nil places, refl)

-- the end
pub at_end : {P N K : Type 0} (g : Grammar P N K) (places : List P) (ss : List (Symbol P N)) (r : Outcome P N)
    → with_front places (run g ss []) ≡ r → (r.0 ≡ places) × (whole g r ≡ ends g ss)
unfolding run
at_end g places ss r h = rw (← h) (append-nil places, refl)
