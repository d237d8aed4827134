-- How many numbers the lists of a function have room for.
use Rattle.std.specs.Prelude.{ℕ, ◌≤◌, List, get_or}

-- no list of operations has less room
pub record IsRoomier (rooms more : List ℕ) : Type 0 where
  pub room : (block : ℕ) → get_or rooms block 0 ≤ get_or more block 0
