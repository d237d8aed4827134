-- Each number of the example is one digit.
use Rattle.std.proofs.Common.{refl, arith}
use Rattle.std.proofs.lemmas.Fmt.{decimal_digit}
use Rattle.mlir_lex.specs.Bytes.{is_bare_byte, is_digit, is_letter, starts_bare}
use Rattle.ordered_diags.specs.Failures.{lines_of}
use Rattle.ordered_diags.proofs.laws.law_lines_of_a_failure.Goals as goal

pub returns : goal.returns
unfolding lines_of starts_bare is_bare_byte is_letter is_digit
returns c = rw (decimal_digit 7 (omega arith), decimal_digit 0 (omega arith)) refl
