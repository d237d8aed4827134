-- Values that are given up for others, one after another.
use Rattle.std.specs.Prelude.{◌≡◌, ℕ, zero, suc, ◌-◌, ◌<◌, ◌==◌, List, [], ◌∷◌, ◌++◌, length, get_or, set, Option, Some, None, if◌then◌else◌}

-- the place of each value that was given up, and at each place the value for which it was given up
pub record Forest : Type 0 where
  pub place : ℕ → Option ℕ
  pub parents : List ℕ

abbrev pub parent_at : Forest → ℕ → ℕ
parent_at t i = get_or t.parents i 0

-- a place is one of the list, and a value that was given up later stands at a later place
pub record IsForest (t : Forest) : Type 0 where
  pub inside : (v i : ℕ) → t.place v ≡ Some i → i < length t.parents
  pub later : (v i j : ℕ) → t.place v ≡ Some i → t.place (parent_at t i) ≡ Some j → i < j

-- a value by its place: itself where it has none
abbrev pub by_place : Forest → (ℕ → ℕ) → ℕ → Option ℕ → ℕ
by_place t next v None = v
by_place t next v (Some i) = next (parent_at t i)

-- the value at which one comes from a value in so many steps, or sooner where there is no further one
abbrev pub followed_for : ℕ → Forest → ℕ → ℕ
followed_for zero t v = v
followed_for (suc room) t v = by_place t (followed_for room t) v (t.place v)

-- the value for which a value stands: there are no more steps than places
unfoldable pub standing : Forest → ℕ → ℕ
standing t = followed_for (length t.parents) t

-- how many places there are from that of a value on
abbrev pub from_place : Forest → Option ℕ → ℕ
from_place t None = 0
from_place t (Some i) = length t.parents - i

unfoldable pub places_left : Forest → ℕ → ℕ
places_left t v = from_place t (t.place v)

-- the value at a place is given up for the one behind that for which it was given up
abbrev pub halved : Forest → ℕ → ℕ → Forest
halved t place next = record { place = t.place; parents = set t.parents place (parent_at t next) }

abbrev pub with_place : (ℕ → Option ℕ) → ℕ → ℕ → ℕ → Option ℕ
with_place place value i v = if value == v then Some i else place v

-- a value is given up for another one
abbrev pub added : Forest → ℕ → ℕ → Forest
added t from to = record { place = with_place t.place from (length t.parents); parents = t.parents ++ to ∷ [] }
