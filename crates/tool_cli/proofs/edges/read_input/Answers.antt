use Rattle.std.proofs.Common.{◌∙◌, refl, arith}
use Rattle.tool_cli.proofs.Bytes.{ended_input, long_input, read_none, read_more, turn_grows}
use Rattle.tool_cli.proofs.edges.read_input.Goals as goal

pub reads-init : goal.reads-init
reads-init g c = record {
  consumed = read_none _ _ c.new-text.ensures.items;
  quiet = refl;
  turns = omega arith;
}

pub returns-then-len-gt-MAX_INPUT-clause-long : goal.returns-then-len-gt-MAX_INPUT-clause-long
returns-then-len-gt-MAX_INPUT-clause-long g c = long_input _ _ _ _ c.reads.invariant.consumed (omega arith)

pub returns-then-count-eq0-clause-whole : goal.returns-then-count-eq0-clause-whole
returns-then-count-eq0-clause-whole g c = let ended = c.in-Ok.ensures.bytes.1 c.if-count-eq0.true (omega (arith, c.read.auto.into, c.reads.auto.chunk, c.as_mut_slice-chunk.ensures.len, c.in_ok-buffer.ensures.len)) in
    (ended_input _ _ _ _ _ _ c.reads.invariant.consumed c.if-count-eq0.true c.in-Ok.ensures.bytes.0 ended, ended)

pub reads-preserved : goal.reads-preserved
reads-preserved g c = record {
  consumed = read_more _ _ _ _ _ _ c.reads.invariant.consumed c.in-Ok.ensures.bytes.0 c.in_ok-extend_from_slice.ensures.items;
  quiet = c.in-Ok.ensures.cause.quiet ∙ c.reads.invariant.quiet;
  turns = turn_grows _ _ _ _ _ c.reads.invariant.turns c.if-count-eq0.false c.in-Ok.ensures.bound.0 c.in_ok-extend_from_slice.ensures.items;
}

pub returns-clause-long : goal.returns-clause-long
returns-clause-long g c = long_input _ _ _ _ c.reads.invariant.consumed (omega arith)
