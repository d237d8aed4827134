-- Worked examples of the arithmetic: each line is what an operation gives at a width.
use Rattle.std.proofs.Common.{◌≡◌, ℕ, true, false, refl}
use Rattle.std.specs.Prelude.{ℤ, pos, negsuc}
use Rattle.number_model.specs.Numbers.{signed, wrapped}
use Rattle.number_model.specs.Answers.{Answer, Gives, Undefined}
use Rattle.number_model.specs.Arithmetic.{Flags, no_flags, Binary, binary, Add, Subtract, Multiply, ShiftLeft, Divide, DivideUnsigned, Remainder, RemainderUnsigned, DivideUp, DivideDown, DivideUpUnsigned, And, Or, Xor, ShiftRight, ShiftRightUnsigned, Greater, GreaterUnsigned, Less, LessUnsigned, compares, Below, BelowUnsigned, AtLeast, AtLeastUnsigned, resize, ExtendSigned, Extend, Truncate}

abbrev nsw : Flags
nsw = record { signed = true; unsigned = false }

abbrev nuw : Flags
nuw = record { signed = false; unsigned = true }

-- a binary operation at a width on two integers
abbrev of : Binary → ℕ → ℤ → ℤ → Answer ℕ
of o w a b = binary o w (wrapped w a) (wrapped w b)

-- an answer as an integer
abbrev is : ℕ → ℤ → Answer ℕ
is w z = Gives (wrapped w z)

-- Sums

sum_wraps : of (Add no_flags) 8 (pos 255) (pos 1) ≡ is 8 (pos 0)
sum_wraps = refl

sum_at_64 : of (Add no_flags) 64 (negsuc 0) (pos 5) ≡ is 64 (pos 4)
sum_at_64 = refl

signed_sum_leaves : of (Add nsw) 8 (pos 127) (pos 1) ≡ Undefined
signed_sum_leaves = refl

signed_sum_stays : of (Add nsw) 8 (negsuc 0) (pos 1) ≡ is 8 (pos 0)
signed_sum_stays = refl

unsigned_sum_leaves : of (Add nuw) 8 (negsuc 0) (pos 1) ≡ Undefined
unsigned_sum_leaves = refl

sum_of_bits : of (Add no_flags) 1 (pos 1) (pos 1) ≡ is 1 (pos 0)
sum_of_bits = refl

signed_sum_of_bits : of (Add nsw) 1 (pos 1) (pos 1) ≡ Undefined
signed_sum_of_bits = refl

difference_wraps : of (Subtract no_flags) 32 (pos 3) (pos 5) ≡ is 32 (negsuc 1)
difference_wraps = refl

unsigned_difference_leaves : of (Subtract nuw) 32 (pos 3) (pos 5) ≡ Undefined
unsigned_difference_leaves = refl

signed_difference_leaves : of (Subtract nsw) 32 (negsuc 2147483647) (pos 1) ≡ Undefined
signed_difference_leaves = refl

product_wraps : of (Multiply no_flags) 64 (pos 4294967296) (pos 4294967296) ≡ is 64 (pos 0)
product_wraps = refl

signed_product_leaves : of (Multiply nsw) 64 (negsuc 9223372036854775807) (negsuc 0) ≡ Undefined
signed_product_leaves = refl

product_of_negatives : of (Multiply nsw) 8 (negsuc 2) (negsuc 4) ≡ is 8 (pos 15)
product_of_negatives = refl

-- Shifts

shift_to_the_left : of (ShiftLeft no_flags) 8 (pos 129) (pos 1) ≡ is 8 (pos 2)
shift_to_the_left = refl

shift_by_the_width : of (ShiftLeft no_flags) 8 (pos 1) (pos 8) ≡ Undefined
shift_by_the_width = refl

signed_shift_leaves : of (ShiftLeft nsw) 8 (pos 64) (pos 1) ≡ Undefined
signed_shift_leaves = refl

unsigned_shift_stays : of (ShiftLeft nuw) 8 (pos 64) (pos 1) ≡ is 8 (pos 128)
unsigned_shift_stays = refl

shift_copies_the_sign : of ShiftRight 8 (negsuc 6) (pos 1) ≡ is 8 (negsuc 3)
shift_copies_the_sign = refl

shift_of_zeros : of ShiftRightUnsigned 32 (negsuc 0) (pos 31) ≡ is 32 (pos 1)
shift_of_zeros = refl

shift_right_by_the_width : of ShiftRight 32 (pos 1) (pos 32) ≡ Undefined
shift_right_by_the_width = refl

shift_of_a_bit : of ShiftRightUnsigned 1 (pos 1) (pos 1) ≡ Undefined
shift_of_a_bit = refl

-- Divisions

division_towards_zero : of Divide 32 (negsuc 6) (pos 2) ≡ is 32 (negsuc 2)
division_towards_zero = refl

remainder_of_a_negative : of Remainder 32 (negsuc 6) (pos 2) ≡ is 32 (negsuc 0)
remainder_of_a_negative = refl

remainder_by_a_negative : of Remainder 32 (pos 7) (negsuc 1) ≡ is 32 (pos 1)
remainder_by_a_negative = refl

division_by_zero : of Divide 32 (pos 7) (pos 0) ≡ Undefined
division_by_zero = refl

remainder_by_zero : of RemainderUnsigned 64 (pos 7) (pos 0) ≡ Undefined
remainder_by_zero = refl

least_by_minus_one : of Divide 32 (negsuc 2147483647) (negsuc 0) ≡ Undefined
least_by_minus_one = refl

remainder_of_the_least_by_minus_one : of Remainder 64 (negsuc 9223372036854775807) (negsuc 0) ≡ Undefined
remainder_of_the_least_by_minus_one = refl

unsigned_division : of DivideUnsigned 8 (negsuc 0) (pos 2) ≡ is 8 (pos 127)
unsigned_division = refl

unsigned_remainder : of RemainderUnsigned 8 (negsuc 0) (pos 16) ≡ is 8 (pos 15)
unsigned_remainder = refl

up_of_a_negative : of DivideUp 32 (negsuc 6) (pos 2) ≡ is 32 (negsuc 2)
up_of_a_negative = refl

up_of_a_positive : of DivideUp 32 (pos 7) (pos 2) ≡ is 32 (pos 4)
up_of_a_positive = refl

up_of_two_negatives : of DivideUp 32 (negsuc 6) (negsuc 1) ≡ is 32 (pos 4)
up_of_two_negatives = refl

up_of_the_least_by_minus_one : of DivideUp 32 (negsuc 2147483647) (negsuc 0) ≡ Undefined
up_of_the_least_by_minus_one = refl

down_of_a_negative : of DivideDown 32 (negsuc 6) (pos 2) ≡ is 32 (negsuc 3)
down_of_a_negative = refl

down_by_a_negative : of DivideDown 8 (pos 7) (negsuc 1) ≡ is 8 (negsuc 3)
down_by_a_negative = refl

down_exactly : of DivideDown 8 (negsuc 7) (pos 2) ≡ is 8 (negsuc 3)
down_exactly = refl

unsigned_up : of DivideUpUnsigned 64 (negsuc 0) (pos 2) ≡ is 64 (pos 9223372036854775808)
unsigned_up = refl

unsigned_up_of_zero : of DivideUpUnsigned 8 (pos 0) (pos 3) ≡ is 8 (pos 0)
unsigned_up_of_zero = refl

unsigned_up_of_bits : of DivideUpUnsigned 1 (pos 1) (pos 1) ≡ is 1 (pos 1)
unsigned_up_of_bits = refl

-- By bits, extremes and comparisons

bits_of_both : of And 8 (pos 12) (pos 10) ≡ is 8 (pos 8)
bits_of_both = refl

bits_of_either : of Or 8 (pos 12) (pos 10) ≡ is 8 (pos 14)
bits_of_either = refl

bits_of_one : of Xor 8 (pos 12) (pos 10) ≡ is 8 (pos 6)
bits_of_one = refl

greater_of_signed : of Greater 8 (negsuc 0) (pos 1) ≡ is 8 (pos 1)
greater_of_signed = refl

greater_of_unsigned : of GreaterUnsigned 8 (negsuc 0) (pos 1) ≡ is 8 (negsuc 0)
greater_of_unsigned = refl

less_of_signed : of Less 64 (negsuc 0) (pos 1) ≡ is 64 (negsuc 0)
less_of_signed = refl

less_of_unsigned : of LessUnsigned 64 (negsuc 0) (pos 1) ≡ is 64 (pos 1)
less_of_unsigned = refl

below_signed : compares Below 8 255 1 ≡ true
below_signed = refl

below_unsigned : compares BelowUnsigned 8 255 1 ≡ false
below_unsigned = refl

at_least_signed : compares AtLeast 8 255 1 ≡ false
at_least_signed = refl

at_least_unsigned : compares AtLeastUnsigned 8 255 1 ≡ true
at_least_unsigned = refl

-- the one bit of `i1` is -1 as a signed number
below_of_bits : compares Below 1 1 0 ≡ true
below_of_bits = refl

-- Other widths

signed_extension : resize (ExtendSigned 32) 8 255 ≡ is 32 (negsuc 0)
signed_extension = refl

unsigned_extension : resize (Extend 32) 8 255 ≡ is 32 (pos 255)
unsigned_extension = refl

extension_of_a_bit : resize (ExtendSigned 64) 1 1 ≡ is 64 (negsuc 0)
extension_of_a_bit = refl

lowest_bits : resize (Truncate no_flags 8) 32 511 ≡ is 8 (pos 255)
lowest_bits = refl

signed_change : resize (Truncate nsw 8) 32 255 ≡ Undefined
signed_change = refl

unsigned_same : resize (Truncate nuw 8) 32 255 ≡ is 8 (pos 255)
unsigned_same = refl

unsigned_change : resize (Truncate nuw 8) 32 256 ≡ Undefined
unsigned_change = refl

signed_same : resize (Truncate nsw 8) 32 (wrapped 32 (negsuc 0)) ≡ is 8 (negsuc 0)
signed_same = refl

least_as_signed : signed 33 4294967296 ≡ negsuc 4294967295
least_as_signed = refl
