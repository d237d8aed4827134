-- What the operations of a row compute, one after another, from two numbers of w bits.
use Rattle.std.specs.Prelude.{ℕ, ◌==◌, pos, if◌then◌else◌}
use Rattle.number_model.specs.Numbers.{unsigned, wrapped}
use Rattle.number_model.specs.Answers.{Answer, Gives, and_then}
use Rattle.number_model.specs.Arithmetic.{no_flags, Binary, binary, Add, Subtract, Multiply, Divide, DivideUnsigned, And, Comparison, Equal, Unequal, Below, compares, bit}

-- a constant
abbrev pub constant : ℕ → ℕ → ℕ
constant w n = wrapped w (pos n)

-- a comparison, a number of one bit
abbrev pub compared : Comparison → ℕ → ℕ → ℕ → ℕ
compared c w a b = bit (compares c w a b)

-- the first number where the bit is set, else the second
abbrev pub selected : ℕ → ℕ → ℕ → ℕ
selected c a b = if unsigned 1 c == 1 then a else b

-- the quotient towards zero, or one step on from it where there is a rest and the signs are alike or not, as is asked
abbrev pub rounded : Comparison → Binary → ℕ → ℕ → ℕ → Answer ℕ
rounded signs step w a b =
    and_then (binary Divide w a b) λ q.
    and_then (binary (Multiply no_flags) w q b) λ m.
    and_then (binary And 1 (compared Unequal w a m) (compared signs 1 (compared Below w a (constant w 0)) (compared Below w b (constant w 0)))) λ g.
    and_then (binary step w q (constant w 1)) λ p.
    Gives (selected g p q)

-- rounded up: one more where the signs are alike
abbrev pub up : ℕ → ℕ → ℕ → Answer ℕ
up = rounded Equal (Add no_flags)

-- rounded down: one less where the signs are not alike
abbrev pub down : ℕ → ℕ → ℕ → Answer ℕ
down = rounded Unequal (Subtract no_flags)

-- unsigned and rounded up: 0 of 0, else one more than the quotient of one less
abbrev pub up_unsigned : ℕ → ℕ → ℕ → Answer ℕ
up_unsigned w a b =
    and_then (binary (Subtract no_flags) w a (constant w 1)) λ m.
    and_then (binary DivideUnsigned w m b) λ q.
    and_then (binary (Add no_flags) w q (constant w 1)) λ p.
    Gives (selected (compared Equal w a (constant w 0)) (constant w 0) p)

-- the first of two where they compare so, else the second
abbrev pub first_where : Comparison → ℕ → ℕ → ℕ → Answer ℕ
first_where c w a b = Gives (selected (compared c w a b) a b)
