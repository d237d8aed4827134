-- A walk along places in two parts.
use Rattle.std.proofs.Common.{◌≡◌, ℕ, List, [], ◌∷◌, ◌++◌, refl}
use Rattle.text_model.specs.PrintedPlaces.{Place}
use Rattle.text_model.proofs.PrintedLemmas.{place_laws}
use Rattle.text_model.specs.PrintedNames.{Names}
use Rattle.generic_printer.specs.Counters.{Counters, with_place, with_places}

-- counters with the same parts
pub same_parts : {a b x y : ℕ} {n m : Names} → a ≡ b → x ≡ y → n ≡ m
    → let c : Counters = record { next_argument = a; next_other = x; names = n } in c ≡ record { next_argument = b; next_other = y; names = m }
same_parts p q r = cc

-- a walk along one part and then another
pub with_places-append : (c : Counters) (xs ys : List Place) → with_places c (xs ++ ys) ≡ with_places (with_places c xs) ys
with_places-append c [] ys = refl
with_places-append c (x ∷ xs) ys = with_places-append (with_place c x) xs ys

-- what a walk that names needs
pub ruleset walk_laws = (place_laws, with_places-append)
