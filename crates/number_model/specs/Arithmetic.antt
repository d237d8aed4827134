-- Arithmetic on numbers of w bits, and where it is undefined.
use Rattle.std.specs.Prelude.{ℕ, ◌/◌, ◌%◌, ◌^◌, ◌==◌, nat_lt, nat_le, Bool, true, false, not, ◌&&◌, ◌||◌, ℤ, pos, negsuc, ◌+ℤ◌, ◌-ℤ◌, ◌*ℤ◌, int_lt, int_le, int_div, int_rem, bit_and, bit_or, bit_xor, if◌then◌else◌}
use Rattle.std.specs.Ordering.{int_eq}
use Rattle.std.specs.Int.{div_ceil, int_shr}
use Rattle.number_model.specs.Numbers.{unsigned, signed, wrapped, fits_signed, fits_unsigned, least}
use Rattle.number_model.specs.Answers.{Answer, Gives, undefined_if}

-- the promises that an operation may carry: no signed wrap, no unsigned wrap
pub record Flags : Type 0 where
  pub signed : Bool
  pub unsigned : Bool

abbrev pub no_flags : Flags
no_flags = record { signed = false; unsigned = false }

-- whether a promise is broken, from the result over signed numbers and that over unsigned ones
abbrev pub breaks : Flags → ℕ → ℤ → ℤ → Bool
breaks flags w s u = (flags.signed && not (fits_signed w s)) || (flags.unsigned && not (fits_unsigned w u))

-- a result that wraps: undefined where a promise is broken
abbrev pub wrapping : Flags → ℕ → ℤ → ℤ → Answer ℕ
wrapping flags w s u = undefined_if (breaks flags w s u) (Gives (wrapped w u))

abbrev pub add : Flags → ℕ → ℕ → ℕ → Answer ℕ
add flags w a b = wrapping flags w (signed w a +ℤ signed w b) (pos (unsigned w a) +ℤ pos (unsigned w b))

abbrev pub subtract : Flags → ℕ → ℕ → ℕ → Answer ℕ
subtract flags w a b = wrapping flags w (signed w a -ℤ signed w b) (pos (unsigned w a) -ℤ pos (unsigned w b))

abbrev pub multiply : Flags → ℕ → ℕ → ℕ → Answer ℕ
multiply flags w a b = wrapping flags w (signed w a *ℤ signed w b) (pos (unsigned w a) *ℤ pos (unsigned w b))

-- a shift by the width or more is undefined
abbrev pub shift_by : ℕ → ℕ → Answer ℕ → Answer ℕ
shift_by w b answer = undefined_if (nat_le w (unsigned w b)) answer

-- to the left: times 2 to the amount
abbrev pub shift_left : Flags → ℕ → ℕ → ℕ → Answer ℕ
shift_left flags w a b =
    shift_by w b (wrapping flags w (signed w a *ℤ pos (2 ^ unsigned w b)) (pos (unsigned w a) *ℤ pos (2 ^ unsigned w b)))

-- to the right: the signed number over 2 to the amount, rounded down
abbrev pub shift_right_signed : ℕ → ℕ → ℕ → Answer ℕ
shift_right_signed w a b = shift_by w b (Gives (wrapped w (int_shr (signed w a) (unsigned w b))))

abbrev pub shift_right_unsigned : ℕ → ℕ → ℕ → Answer ℕ
shift_right_unsigned w a b = shift_by w b (Gives (unsigned w a / 2 ^ unsigned w b))

-- whether unsigned division is undefined: by 0
abbrev pub no_quotient_unsigned : ℕ → ℕ → Bool
no_quotient_unsigned w b = unsigned w b == 0

-- whether signed division is undefined: by 0, or of the least number by -1
abbrev pub no_quotient : ℤ → ℤ → ℤ → Bool
no_quotient lowest a b = int_eq b (pos 0) || (int_eq a lowest && int_eq b (negsuc 0))

-- a result of division by signed numbers
abbrev pub divided : ℕ → (ℤ → ℤ → ℤ) → ℕ → ℕ → Answer ℕ
divided w f a b =
    undefined_if (no_quotient (least w) (signed w a) (signed w b)) (Gives (wrapped w (f (signed w a) (signed w b))))

abbrev pub divided_unsigned : ℕ → (ℕ → ℕ → ℕ) → ℕ → ℕ → Answer ℕ
divided_unsigned w f a b = undefined_if (no_quotient_unsigned w b) (Gives (f (unsigned w a) (unsigned w b)))

-- whether just one of the two holds
abbrev pub unlike : Bool → Bool → Bool
unlike true b = not b
unlike false b = b

-- whether one of the two is below 0 and the other is not
abbrev pub have_unlike_signs : ℤ → ℤ → Bool
have_unlike_signs a b = unlike (int_lt a (pos 0)) (int_lt b (pos 0))

-- whether the quotient that is rounded towards zero lies below the exact one, and whether it lies above it
abbrev pub lies_below : ℤ → ℤ → Bool
lies_below a b = not (int_eq (int_rem a b) (pos 0)) && not (have_unlike_signs a b)

abbrev pub lies_above : ℤ → ℤ → Bool
lies_above a b = not (int_eq (int_rem a b) (pos 0)) && have_unlike_signs a b

-- the quotient rounded up
abbrev pub quotient_up : ℤ → ℤ → ℤ
quotient_up a b = if lies_below a b then int_div a b +ℤ pos 1 else int_div a b

-- the quotient rounded down
abbrev pub quotient_down : ℤ → ℤ → ℤ
quotient_down a b = if lies_above a b then int_div a b -ℤ pos 1 else int_div a b

-- the operand that the test chooses, as it stands
abbrev pub chosen : Bool → ℕ → ℕ → Answer ℕ
chosen first a b = Gives (if first then a else b)

-- the operations of two numbers that give a number of the same width
pub data Binary : Type 0 where
  Add : Flags → Binary
  Subtract : Flags → Binary
  Multiply : Flags → Binary
  ShiftLeft : Flags → Binary
  Divide : Binary
  DivideUnsigned : Binary
  Remainder : Binary
  RemainderUnsigned : Binary
  DivideUp : Binary
  DivideDown : Binary
  DivideUpUnsigned : Binary
  And : Binary
  Or : Binary
  Xor : Binary
  ShiftRight : Binary
  ShiftRightUnsigned : Binary
  Greater : Binary
  GreaterUnsigned : Binary
  Less : Binary
  LessUnsigned : Binary

-- what such an operation gives at a width
abbrev pub binary : Binary → ℕ → ℕ → ℕ → Answer ℕ
binary (Add flags) w a b = add flags w a b
binary (Subtract flags) w a b = subtract flags w a b
binary (Multiply flags) w a b = multiply flags w a b
binary (ShiftLeft flags) w a b = shift_left flags w a b
-- rounded towards zero
binary Divide w a b = divided w int_div a b
binary DivideUnsigned w a b = divided_unsigned w ◌/◌ a b
-- with the sign of the first
binary Remainder w a b = divided w int_rem a b
binary RemainderUnsigned w a b = divided_unsigned w ◌%◌ a b
binary DivideUp w a b = divided w quotient_up a b
binary DivideDown w a b = divided w quotient_down a b
binary DivideUpUnsigned w a b = divided_unsigned w div_ceil a b
-- by bits
binary And w a b = Gives (bit_and (unsigned w a) (unsigned w b))
binary Or w a b = Gives (bit_or (unsigned w a) (unsigned w b))
binary Xor w a b = Gives (bit_xor (unsigned w a) (unsigned w b))
binary ShiftRight w a b = shift_right_signed w a b
binary ShiftRightUnsigned w a b = shift_right_unsigned w a b
-- the greater and the less of two, of equal ones the second
binary Greater w a b = chosen (int_lt (signed w b) (signed w a)) a b
binary GreaterUnsigned w a b = chosen (nat_lt (unsigned w b) (unsigned w a)) a b
binary Less w a b = chosen (int_lt (signed w a) (signed w b)) a b
binary LessUnsigned w a b = chosen (nat_lt (unsigned w a) (unsigned w b)) a b

-- the comparisons, in the order of the numbers that stand for them: 0 is equal
pub data Comparison : Type 0 where
  Equal : Comparison
  Unequal : Comparison
  Below : Comparison
  AtMost : Comparison
  Above : Comparison
  AtLeast : Comparison
  BelowUnsigned : Comparison
  AtMostUnsigned : Comparison
  AboveUnsigned : Comparison
  AtLeastUnsigned : Comparison

abbrev pub compares : Comparison → ℕ → ℕ → ℕ → Bool
compares Equal w a b = unsigned w a == unsigned w b
compares Unequal w a b = not (unsigned w a == unsigned w b)
compares Below w a b = int_lt (signed w a) (signed w b)
compares AtMost w a b = int_le (signed w a) (signed w b)
compares Above w a b = int_lt (signed w b) (signed w a)
compares AtLeast w a b = int_le (signed w b) (signed w a)
compares BelowUnsigned w a b = nat_lt (unsigned w a) (unsigned w b)
compares AtMostUnsigned w a b = nat_le (unsigned w a) (unsigned w b)
compares AboveUnsigned w a b = nat_lt (unsigned w b) (unsigned w a)
compares AtLeastUnsigned w a b = nat_le (unsigned w b) (unsigned w a)

-- a truth value as a number of one bit
abbrev pub bit : Bool → ℕ
bit true = 1
bit false = 0

-- the operations of one number of w bits that give one of another width
pub data Resize : Type 0 where
  -- the same signed number
  ExtendSigned : ℕ → Resize
  -- the same unsigned number
  Extend : ℕ → Resize
  -- its lowest bits. Undefined where the signed or the unsigned number changes that a flag speaks of.
  Truncate : Flags → ℕ → Resize
  -- the number as it stands
  Keep : Resize

abbrev pub resize : Resize → ℕ → ℕ → Answer ℕ
resize (ExtendSigned m) w a = Gives (wrapped m (signed w a))
resize (Extend m) w a = Gives (unsigned w a)
resize (Truncate flags m) w a = undefined_if (breaks flags m (signed w a) (pos (unsigned w a))) (Gives (unsigned m a))
resize Keep w a = Gives a
