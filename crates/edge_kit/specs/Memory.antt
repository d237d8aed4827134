-- What contracts see of the sources and sinks that stand in memory.
use Rattle.std.specs.Prelude.{ℕ, ◌+◌, ◌-◌, ◌^◌, min, List}

-- a source: the bytes still to come, the numbers of the calls that fail, how many calls and how many faults there were
pub record Supply : Type 0 where
  pub left : List ℕ
  pub fails : List ℕ
  pub calls : ℕ
  pub faults : ℕ

-- a sink: the bytes taken, the numbers of the calls that fail, how many calls and how many faults there were
pub record Store : Type 0 where
  pub held : List ℕ
  pub fails : List ℕ
  pub calls : ℕ
  pub faults : ℕ

-- one more, on a count of 64 bits that stands still at its last value
abbrev pub one_more : ℕ → ℕ
one_more count = min (count + 1) (2 ^ 64 - 1)
