-- What the laws of rows promise.
use Rattle.std.specs.Prelude.{◌≡◌, ◌⊎◌, ℕ, List}
use Rattle.conversion_model.specs.Rows.{Pattern}
use Rattle.pattern_model.specs.Tables.{all_sets}
use Rattle.sound_model.specs.Soundness.{RowsSound, PatternsSound}

-- the numbers of bits that an index may have
abbrev pub IsWidth : ℕ → Type 0
IsWidth bits = (bits ≡ 32) ⊎ (bits ≡ 64)

-- Each row of a set does what its root does wherever that is defined, in a pass that has this set alone and in one that has all sets.
pub record SetSound (set : List Pattern) : Type 0 where
  pub alone : (bits : ℕ) → IsWidth bits → RowsSound bits set
  pub among_all : (bits : ℕ) → IsWidth bits → PatternsSound bits all_sets set
