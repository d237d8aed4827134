-- What words spell, by the numbers of their names.
use Rattle.std.specs.Prelude.{ℕ, Bool, Option}

pub record Spelling : Type 0 where
  -- the width of an integer type, and none for `index`
  pub width : ℕ → Option ℕ
  -- the size of a dimension, and none for `?`
  pub size : ℕ → Option ℕ
  -- the value of a number
  pub number : ℕ → ℕ
  -- whether a plain llvm type is `void`
  pub is_void : ℕ → Bool
