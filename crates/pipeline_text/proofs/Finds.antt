-- Looking through a list from a place on.
use Rattle.std.proofs.Common.{◌≡◌, ℕ, ◌+◌, ◌<◌, Bool, false, List, length, drop, get_or, refl, add-one, drop-cons}
use Rattle.std.specs.Prelude.{find}

-- what fails the test may be left out
pub find_next : {X : Type 0} (test : X → Bool) (xs : List X) (i : ℕ) (d : X) → i < length xs → test (get_or xs i d) ≡ false
    → find test (drop (i + 1) xs) ≡ find test (drop i xs)
find_next test xs i d h fails = rw (add-one, drop-cons xs i d h, fails) refl
