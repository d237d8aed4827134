-- Capped values, and where names end before places.
use Rattle.std.proofs.Common.{◌≡◌, ℕ, ◌≤◌, true, false, List, [], ◌∷◌, ◌++◌, length, drop, refl, sym, ◌∙◌, if◌then◌else◌}
use Rattle.std.specs.Prelude.{Bool, nat_le}
use Rattle.std.proofs.lemmas.List.{drop_all, append-nil}
use Rattle.text_grammar.specs.declared.places.Place.{Place}
use Rattle.text_events.specs.declared.event.Event.{Event}
use Rattle.text_events.specs.Source.{events_from}

cap_case : (b : Bool) (cap value : ℕ) → true ≡ b → cap ≡ (if b then cap else value)
cap_case true cap value is = refl
cap_case false cap value is = absurd cc

-- a value that is above the limit is the cap
pub cap_is : (limit cap value : ℕ) → true ≡ nat_le limit value → cap ≡ (if nat_le limit value then cap else value)
cap_is limit cap value is = cap_case (nat_le limit value) cap value is

no_names : (own : ℕ) (ps : List Place) → events_from own ps [] ≡ []
no_names own [] = refl
no_names own (p ∷ ps) = refl

-- where no name is left, all events were found
pub all_named : (found whole : List Event) (ps : List Place) (names : List ℕ) (i : ℕ) → length names ≤ i → found ++ events_from i ps (drop i names) ≡ whole → found ≡ whole
all_named found whole ps names i past h = sym (append-nil found) ∙ rw (drop_all i names past, no_names i ps) at h
