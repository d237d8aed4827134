use Rattle.std.proofs.Common.{arith, sym, ◌∙◌}
use Rattle.mlir_lex.specs.Scan.{string_piece}
use Rattle.mlir_lex.specs.Bytes.{is_plain}
use Rattle.mlir_lex.proofs.Runs.{pieces-run, pieces-step, pieces-stop, next_is-no_run, string_piece-plain, string_piece-escape}
use Rattle.mlir_lex.proofs.scan.string_step.Goals as goal

pub returns-then-plain-gt0-clause-goes_on : goal.returns-then-plain-gt0-clause-goes_on
returns-then-plain-gt0-clause-goes_on c = rw (c.run-plain.ensures.run is_plain (λ b is e. e)) (pieces-run string_piece is_plain string_piece-plain c.args.text.now)

pub returns-else-plain-gt0-clause-goes_on : goal.returns-else-plain-gt0-clause-goes_on
returns-else-plain-gt0-clause-goes_on c =
    let none = string_piece-escape c.args.text.now (next_is-no_run is_plain c.args.text.now (omega (arith, (c.run-plain.ensures.run is_plain (λ b is e. e))))) in
    pieces-step string_piece _ c.args.text.now (none ∙ sym c.escape_len.ensures.len) c.escape_len.ensures.bound

pub returns-else-plain-gt0-clause-stops : goal.returns-else-plain-gt0-clause-stops
returns-else-plain-gt0-clause-stops c h =
    let none = string_piece-escape c.args.text.now (next_is-no_run is_plain c.args.text.now (omega (arith, (c.run-plain.ensures.run is_plain (λ b is e. e))))) in
    pieces-stop string_piece c.args.text.now (none ∙ sym c.escape_len.ensures.len ∙ h)
