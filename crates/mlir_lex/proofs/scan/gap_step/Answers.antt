use Rattle.std.proofs.Common.{arith, sym, ◌∙◌}
use Rattle.mlir_lex.specs.Scan.{gap_piece}
use Rattle.mlir_lex.specs.Bytes.{is_blank}
use Rattle.mlir_lex.proofs.Runs.{pieces-run, pieces-step, pieces-stop, next_is-no_run, gap_piece-blank, gap_piece-comment}
use Rattle.mlir_lex.proofs.scan.gap_step.Goals as goal

pub returns-then-blanks-gt0-clause-goes_on : goal.returns-then-blanks-gt0-clause-goes_on
returns-then-blanks-gt0-clause-goes_on c = rw (c.run-blanks.ensures.run is_blank (λ b is e. e)) (pieces-run gap_piece is_blank gap_piece-blank c.args.text.now)

pub returns-else-blanks-gt0-clause-goes_on : goal.returns-else-blanks-gt0-clause-goes_on
returns-else-blanks-gt0-clause-goes_on c =
    let none = gap_piece-comment c.args.text.now (next_is-no_run is_blank c.args.text.now (omega (arith, (c.run-blanks.ensures.run is_blank (λ b is e. e))))) in
    pieces-step gap_piece _ c.args.text.now (none ∙ sym c.comment_len.ensures.len) c.comment_len.ensures.bound

pub returns-else-blanks-gt0-clause-stops : goal.returns-else-blanks-gt0-clause-stops
returns-else-blanks-gt0-clause-stops c h =
    let none = gap_piece-comment c.args.text.now (next_is-no_run is_blank c.args.text.now (omega (arith, (c.run-blanks.ensures.run is_blank (λ b is e. e))))) in
    pieces-stop gap_piece c.args.text.now (none ∙ sym c.comment_len.ensures.len ∙ h)
