-- Worked examples: what the operations of rows give, one after another.
use Rattle.std.proofs.Common.{◌≡◌, ℕ, refl}
use Rattle.std.specs.Prelude.{ℤ, pos, negsuc}
use Rattle.number_model.specs.Numbers.{signed, wrapped}
use Rattle.number_model.specs.Answers.{Answer, Gives, Undefined}
use Rattle.number_model.specs.Arithmetic.{Above, AboveUnsigned, Below, BelowUnsigned}
use Rattle.row_numbers.specs.Sequences.{up, down, up_unsigned, first_where}

abbrev of : (ℕ → ℕ → ℕ → Answer ℕ) → ℕ → ℤ → ℤ → Answer ℕ
of f w a b = f w (wrapped w a) (wrapped w b)

abbrev is : ℕ → ℤ → Answer ℕ
is w z = Gives (wrapped w z)

seven_by_two : of up 32 (pos 7) (pos 2) ≡ is 32 (pos 4)
seven_by_two = refl

minus_seven_by_two : of up 32 (negsuc 6) (pos 2) ≡ is 32 (negsuc 2)
minus_seven_by_two = refl

minus_seven_by_minus_two : of up 32 (negsuc 6) (negsuc 1) ≡ is 32 (pos 4)
minus_seven_by_minus_two = refl

six_by_two : of up 32 (pos 6) (pos 2) ≡ is 32 (pos 3)
six_by_two = refl

least_by_minus_one : of up 8 (negsuc 127) (negsuc 0) ≡ Undefined
least_by_minus_one = refl

-- of one bit the numbers are 0 and -1
none_by_minus_one : of up 1 (pos 0) (negsuc 0) ≡ is 1 (pos 0)
none_by_minus_one = refl

minus_one_by_minus_one : of down 1 (negsuc 0) (negsuc 0) ≡ Undefined
minus_one_by_minus_one = refl

seven_by_two_down : of down 32 (pos 7) (pos 2) ≡ is 32 (pos 3)
seven_by_two_down = refl

minus_seven_by_two_down : of down 32 (negsuc 6) (pos 2) ≡ is 32 (negsuc 3)
minus_seven_by_two_down = refl

least_by_two_down : of down 8 (negsuc 127) (pos 3) ≡ is 8 (negsuc 42)
least_by_two_down = refl

by_none : of down 64 (pos 5) (pos 0) ≡ Undefined
by_none = refl

none_by_five : of up_unsigned 16 (pos 0) (pos 5) ≡ is 16 (pos 0)
none_by_five = refl

greatest_by_two : of up_unsigned 16 (pos 65535) (pos 2) ≡ is 16 (pos 32768)
greatest_by_two = refl

one_by_one_of_a_bit : of up_unsigned 1 (pos 1) (pos 1) ≡ is 1 (pos 1)
one_by_one_of_a_bit = refl

greater_of_signs : of (first_where Above) 8 (negsuc 0) (pos 1) ≡ is 8 (pos 1)
greater_of_signs = refl

greater_unsigned_of_signs : of (first_where AboveUnsigned) 8 (negsuc 0) (pos 1) ≡ is 8 (pos 255)
greater_unsigned_of_signs = refl

less_of_signs : of (first_where Below) 8 (negsuc 0) (pos 1) ≡ is 8 (negsuc 0)
less_of_signs = refl

less_unsigned_of_signs : of (first_where BelowUnsigned) 8 (negsuc 0) (pos 1) ≡ is 8 (pos 1)
less_unsigned_of_signs = refl

-- 1 of one bit is kept as -1
one_of_a_bit : signed 1 (wrapped 1 (pos 1)) ≡ negsuc 0
one_of_a_bit = refl
