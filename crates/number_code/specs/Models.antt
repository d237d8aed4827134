-- What the types of the code stand for.
use Rattle.std.specs.Prelude.{ℕ, ◌≤◌, ⊤}
use Rattle.number_model.specs.Answers.{Answer, Gives, Undefined}
use Rattle.number_model.specs.Arithmetic as model
use Rattle.number_code.specs.declared.arith.Flags.{Flags}
use Rattle.number_code.specs.declared.arith.Given.{Given}
use Rattle.number_code.specs.declared.arith.Given.TheVariants as given
use Rattle.number_code.specs.declared.arith.Binary.{Binary}
use Rattle.number_code.specs.declared.arith.Binary.TheVariants as binary
use Rattle.number_code.specs.declared.operations.Comparison.{Comparison}
use Rattle.number_code.specs.declared.operations.Comparison.TheVariants as comparison
use Rattle.number_code.specs.declared.operations.Resize.{Resize}
use Rattle.number_code.specs.declared.operations.Resize.TheVariants as resize

abbrev pub answer_of : Given → Answer ℕ
answer_of (given.Number n) = Gives n
answer_of given.Undefined = Undefined

abbrev pub flags_of : Flags → model.Flags
flags_of f = record { signed = f.signed; unsigned = f.unsigned }

abbrev pub binary_of : Binary → model.Binary
binary_of (binary.Add flags) = model.Add (flags_of flags)
binary_of (binary.Subtract flags) = model.Subtract (flags_of flags)
binary_of (binary.Multiply flags) = model.Multiply (flags_of flags)
binary_of (binary.ShiftLeft flags) = model.ShiftLeft (flags_of flags)
binary_of binary.Divide = model.Divide
binary_of binary.DivideUnsigned = model.DivideUnsigned
binary_of binary.Remainder = model.Remainder
binary_of binary.RemainderUnsigned = model.RemainderUnsigned
binary_of binary.DivideUp = model.DivideUp
binary_of binary.DivideDown = model.DivideDown
binary_of binary.DivideUpUnsigned = model.DivideUpUnsigned
binary_of binary.And = model.And
binary_of binary.Or = model.Or
binary_of binary.Xor = model.Xor
binary_of binary.ShiftRight = model.ShiftRight
binary_of binary.ShiftRightUnsigned = model.ShiftRightUnsigned
binary_of binary.Greater = model.Greater
binary_of binary.GreaterUnsigned = model.GreaterUnsigned
binary_of binary.Less = model.Less
binary_of binary.LessUnsigned = model.LessUnsigned

abbrev pub comparison_of : Comparison → model.Comparison
comparison_of comparison.Equal = model.Equal
comparison_of comparison.Unequal = model.Unequal
comparison_of comparison.Below = model.Below
comparison_of comparison.AtMost = model.AtMost
comparison_of comparison.Above = model.Above
comparison_of comparison.AtLeast = model.AtLeast
comparison_of comparison.BelowUnsigned = model.BelowUnsigned
comparison_of comparison.AtMostUnsigned = model.AtMostUnsigned
comparison_of comparison.AboveUnsigned = model.AboveUnsigned
comparison_of comparison.AtLeastUnsigned = model.AtLeastUnsigned

abbrev pub resize_of : Resize → model.Resize
resize_of (resize.ExtendSigned m) = model.ExtendSigned m
resize_of (resize.Extend m) = model.Extend m
resize_of (resize.Truncate flags m) = model.Truncate (flags_of flags) m
resize_of resize.Keep = model.Keep

-- the other width is one of 1 to 64 bits
abbrev pub IsResize : Resize → Type 0
IsResize (resize.ExtendSigned m) = (1 ≤ m) × (m ≤ 64)
IsResize (resize.Extend m) = (1 ≤ m) × (m ≤ 64)
IsResize (resize.Truncate flags m) = (1 ≤ m) × (m ≤ 64)
IsResize resize.Keep = ⊤
