use Rattle.std.proofs.Common.{arith}
use Rattle.std.proofs.lemmas.List.{take_rest}
use Rattle.mlir_lex.specs.Scan.{gap_len, gap_piece}
use Rattle.mlir_lex.proofs.Runs.{pieces-nil}
use Rattle.mlir_lex.proofs.scan.gap_len.Goals as goal

pub returns-then-step-eq0-clause-len : goal.returns-then-step-eq0-clause-len
unfolding gap_len
returns-then-step-eq0-clause-len c =
    let stop = rw take_rest at c.gap_step-step.ensures.stops in
    omega (arith, stop c.if-step-eq0.true, c.steps.invariant)

pub returns-clause-len : goal.returns-clause-len
unfolding gap_len
returns-clause-len c = omega (arith, pieces-nil gap_piece c.args.text.now c.steps.at (omega arith), c.steps.invariant)
