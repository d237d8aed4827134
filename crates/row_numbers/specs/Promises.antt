-- What the laws of these numbers promise.
use Rattle.std.specs.Prelude.{◌≡◌, ℕ, ◌<◌, ℤ}
use Rattle.number_model.specs.Numbers.{signed, wrapped}
use Rattle.number_model.specs.Answers.{Answer, Gives}
use Rattle.number_model.specs.Arithmetic.{Binary, DivideUp, DivideDown, DivideUpUnsigned, Greater, GreaterUnsigned, Less, LessUnsigned, Above, AboveUnsigned, Below, BelowUnsigned, binary}
use Rattle.row_numbers.specs.Sequences.{up, down, up_unsigned, first_where}

-- wherever the operation is defined, the others one after another are, and give the same number
abbrev pub ComesFrom : Binary → (ℕ → ℕ → ℕ → Answer ℕ) → Type 0
ComesFrom o others = (w a b r : ℕ) → 0 < w → binary o w a b ≡ Gives r → others w a b ≡ Gives r

-- division with rounding
pub record Roundings : Type 0 where
  pub upward : ComesFrom DivideUp up
  pub downward : ComesFrom DivideDown down
  pub upward_unsigned : ComesFrom DivideUpUnsigned up_unsigned

-- the greater and the less of two
pub record Extremes : Type 0 where
  pub greater : ComesFrom Greater (first_where Above)
  pub greater_unsigned : ComesFrom GreaterUnsigned (first_where AboveUnsigned)
  pub less : ComesFrom Less (first_where Below)
  pub less_unsigned : ComesFrom LessUnsigned (first_where BelowUnsigned)

-- a constant that is kept as the signed number that its bits are is the same constant
abbrev pub KeepsConstants : Type 0
KeepsConstants = (w : ℕ) (z : ℤ) → 0 < w → wrapped w (signed w (wrapped w z)) ≡ wrapped w z
