-- The first event at which a test stands that sees the events behind it: the three answers of a loop.
use Rattle.std.proofs.Common.{◌≡◌, ℕ, zero, suc, sym, ◌∙◌, nat_lt, ◌+◌, ◌<◌, ◌≤◌, Bool, true, false, List, [], ◌∷◌, length, drop, get_or, Option, Some, None, refl, arith, ap}
use Rattle.std.specs.Prelude.{slice_get}
use Rattle.std.proofs.lemmas.Bool.Decides.{nat_tests}
use Rattle.std.proofs.lemmas.Option.{same_Some, none-some}
use Rattle.std.proofs.lemmas.List.{drop_all, drop_more}
use Rattle.line_grammar.specs.Language.{one_later}
use Rattle.text_events.specs.declared.event.Event.{Event}
use Rattle.text_types.specs.Items.{place_next}
use Rattle.type_kinds.specs.First.{first_in}

-- this many events were passed
abbrev pub ahead : ℕ → Option ℕ → Option ℕ
ahead n None = None
ahead n (Some k) = Some (n + k)

here_case : (b : Bool) (i : ℕ) (o : Option ℕ) → b ≡ true → ahead i (elim b [ true ↦ Some 0 | false ↦ one_later o ]) ≡ Some i
here_case true i o e = let z : i + 0 ≡ i = omega arith in rw z refl
here_case false i o e = absurd cc

-- it stands at this event
pub found : {S : Type 0} (step : S → Event → List Event → S) (stands : S → Event → List Event → Bool) (s : S) (es : List Event) (i : ℕ) (e : Event) → i < length es
    → stands s (get_or es i e) (drop (i + 1) es) ≡ true → ahead i (first_in step stands s (drop i es)) ≡ Some i
found step stands s es i e within is =
    rw (drop_more es i e within) (here_case (stands s (get_or es i e) (drop (i + 1) es)) i (first_in step stands (step s (get_or es i e) (drop (i + 1) es)) (drop (i + 1) es)) is)

later : (i : ℕ) (o : Option ℕ) → ahead i (one_later o) ≡ ahead (i + 1) o
later i None = refl
later i (Some k) = let e : i + suc k ≡ i + 1 + k = omega arith in rw e refl

on_case : (b : Bool) (i : ℕ) (o : Option ℕ) → b ≡ false → ahead i (elim b [ true ↦ Some 0 | false ↦ one_later o ]) ≡ ahead (i + 1) o
on_case true i o e = absurd cc
on_case false i o e = later i o

-- it does not, and the loop goes on
pub goes_on : {S : Type 0} (step : S → Event → List Event → S) (stands : S → Event → List Event → Bool) (s : S) (es : List Event) (i : ℕ) (e : Event) → i < length es
    → stands s (get_or es i e) (drop (i + 1) es) ≡ false
    → ahead i (first_in step stands s (drop i es)) ≡ ahead (i + 1) (first_in step stands (step s (get_or es i e) (drop (i + 1) es)) (drop (i + 1) es))
goes_on step stands s es i e within is =
    rw (drop_more es i e within) (on_case (stands s (get_or es i e) (drop (i + 1) es)) i (first_in step stands (step s (get_or es i e) (drop (i + 1) es)) (drop (i + 1) es)) is)

-- no event is left
pub nowhere : {S : Type 0} (step : S → Event → List Event → S) (stands : S → Event → List Event → Bool) (s : S) (es : List Event) (i : ℕ) → length es ≤ i
    → ahead i (first_in step stands s (drop i es)) ≡ None
nowhere step stands s es i past = rw (drop_all i es past) refl

-- the place behind an event
pub next_some : (es : List Event) (k : ℕ) (e : Event) → slice_get es k ≡ Some e → Some e.place ≡ place_next (drop k es)
next_some [] k e h = absurd (none-some e h)
next_some (x ∷ es) zero e h = ap (λ (y : Event). Some y.place) (sym (same_Some x e h))
next_some (x ∷ es) (suc k) e h = next_some es k e h

pub next_none : (es : List Event) (k : ℕ) → slice_get es k ≡ None → None ≡ place_next (drop k es)
next_none [] zero h = refl
next_none [] (suc k) h = refl
next_none (x ∷ es) zero h = absurd cc
next_none (x ∷ es) (suc k) h = next_none es k h

-- an event more at which it does not stand
pub next_turn : {S : Type 0} (step : S → Event → List Event → S) (stands : S → Event → List Event → Bool) (s t : S) (es : List Event) (i : ℕ) (e : Event) (whole : Option ℕ) → i < length es
    → ahead i (first_in step stands s (drop i es)) ≡ whole → stands s (get_or es i e) (drop (i + 1) es) ≡ false → t ≡ step s (get_or es i e) (drop (i + 1) es)
    → ahead (i + 1) (first_in step stands t (drop (i + 1) es)) ≡ whole
next_turn step stands s t es i e whole within so_far is moves =
    ap (λ x. ahead (i + 1) (first_in step stands x (drop (i + 1) es))) moves ∙ sym (goes_on step stands s es i e within is) ∙ so_far

pub not_below : (m n : ℕ) → n ≤ m → nat_lt m n ≡ false
not_below m n h = grind (arith, nat_tests)

pub is_below : (m n : ℕ) → m < n → nat_lt m n ≡ true
is_below m n h = grind (arith, nat_tests)
