-- The hash of a text.
use Rattle.std.specs.Prelude.{ℕ, ◌+◌, ◌*◌, ◌%◌, ◌^◌, List, fold}

-- the hash behind one more byte
unfoldable pub rolled_byte : ℕ → ℕ → ℕ
rolled_byte sum byte = (37 * sum + byte) % 2 ^ 32

-- the hash behind a text
abbrev pub rolled : ℕ → List ℕ → ℕ
rolled sum text = fold rolled_byte sum text
