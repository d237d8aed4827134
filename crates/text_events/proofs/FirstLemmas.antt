-- The first event at which a test stands, step by step: the three answers of a loop over a slice.
use Rattle.std.proofs.Common.{◌≡◌, ℕ, suc, ◌+◌, ◌<◌, ◌≤◌, Bool, true, false, List, length, drop, get_or, Option, Some, None, refl, arith}
use Rattle.std.proofs.lemmas.List.{drop_all, drop_more}
use Rattle.line_grammar.specs.Language.{first_at, one_later}

-- this many events were passed
abbrev pub ahead : ℕ → Option ℕ → Option ℕ
ahead n None = None
ahead n (Some k) = Some (n + k)

here_case : (b : Bool) (i : ℕ) (o : Option ℕ) → b ≡ true → ahead i (elim b [ true ↦ Some 0 | false ↦ one_later o ]) ≡ Some i
here_case true i o e = let z : i + 0 ≡ i = omega arith in rw z refl
here_case false i o e = absurd cc

-- it stands at this event
pub found : {S E : Type 0} (step : S → E → S) (stands : S → E → Bool) (s : S) (es : List E) (i : ℕ) (e : E) → i < length es → stands s (get_or es i e) ≡ true
    → ahead i (first_at step stands s (drop i es)) ≡ Some i
found step stands s es i e within is =
    rw (drop_more es i e within) (here_case (stands s (get_or es i e)) i (first_at step stands (step s (get_or es i e)) (drop (i + 1) es)) is)

later : (i : ℕ) (o : Option ℕ) → ahead i (one_later o) ≡ ahead (i + 1) o
later i None = refl
later i (Some k) = let e : i + suc k ≡ i + 1 + k = omega arith in rw e refl

on_case : (b : Bool) (i : ℕ) (o : Option ℕ) → b ≡ false → ahead i (elim b [ true ↦ Some 0 | false ↦ one_later o ]) ≡ ahead (i + 1) o
on_case true i o e = absurd cc
on_case false i o e = later i o

-- it does not, and the loop goes on
pub goes_on : {S E : Type 0} (step : S → E → S) (stands : S → E → Bool) (s : S) (es : List E) (i : ℕ) (e : E) → i < length es → stands s (get_or es i e) ≡ false
    → ahead i (first_at step stands s (drop i es)) ≡ ahead (i + 1) (first_at step stands (step s (get_or es i e)) (drop (i + 1) es))
goes_on step stands s es i e within is =
    rw (drop_more es i e within) (on_case (stands s (get_or es i e)) i (first_at step stands (step s (get_or es i e)) (drop (i + 1) es)) is)

-- no event is left
pub nowhere : {S E : Type 0} (step : S → E → S) (stands : S → E → Bool) (s : S) (es : List E) (i : ℕ) → length es ≤ i → ahead i (first_at step stands s (drop i es)) ≡ None
nowhere step stands s es i past = rw (drop_all i es past) refl
