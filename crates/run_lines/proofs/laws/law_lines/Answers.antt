-- Numbers by their digits, names by their bytes.
use Rattle.std.proofs.Common.{refl}
use Rattle.std.specs.Fmt.{digits}
use Rattle.mlir_lex.specs.Bytes.{is_bare_byte, is_digit, is_letter, starts_bare}
use Rattle.run_lines.proofs.laws.law_lines.Goals as goal

pub returns-clause-outcome : goal.returns-clause-outcome
unfolding digits starts_bare is_bare_byte is_letter is_digit
returns-clause-outcome c = refl

pub returns-clause-bit : goal.returns-clause-bit
unfolding digits
returns-clause-bit c = refl

pub returns-clause-quoted : goal.returns-clause-quoted
unfolding starts_bare is_bare_byte is_letter is_digit
returns-clause-quoted c = refl
