-- A list as contracts see it.
use Rattle.std.specs.Prelude.{ℕ, List, ◌++◌, take, drop}

-- the numbers in order, and how many the buffer has room for
pub record Listed : Type 0 where
  pub list : List ℕ
  pub room : ℕ

-- the numbers of a buffer that stand before its gap, then those behind it
abbrev pub around : List ℕ → ℕ → ℕ → List ℕ
around items start end = take start items ++ drop end items
