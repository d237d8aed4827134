use Rattle.std.proofs.Common.{◌∙◌, arith}
use Rattle.tool_cli.proofs.Bytes.{write_more, front_taken, at_error}
use Rattle.tool_cli.proofs.edges.write_all.Goals as goal

pub returns-in_err-at-clause-err : goal.returns-in_err-at-clause-err
returns-in_err-at-clause-err g c = at_error _ _ (front_taken _ _ _ _ _ c.writes.invariant.taken c.in_err-at.ensures.held)

pub writes-preserved : goal.writes-preserved
writes-preserved g c = record {
  taken = write_more _ _ _ _ _ _ c.writes.invariant.taken c.in_ok-at.ensures.held;
  quiet = c.in_ok-at.ensures.cause.quiet ∙ c.writes.invariant.quiet;
  within = omega (arith, c.in_ok-at.ensures.takes.0);
}
