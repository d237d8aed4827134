use Rattle.unit_writer.specs.Names.{name_by}
use Rattle.unit_writer.proofs.LineLaws.{copies_next}
use Rattle.unit_writer.proofs.line.Line.stand_all.Goals as goal

pub loop-index-preserved : goal.loop-index-preserved
loop-index-preserved c =
    copies_next (name_by c.args.self.now.names) c.args.self.now.operands.now _ _ _ _ c.args.results.now c.args.sources.now c.loop-index.index c.index-results-index.result c.in-Some.source.now c.loop-index-test.true c.index-results-index.is c.in-Some.ensures.lookup.3.0 (c.in-Some.ensures.lookup.3.1 c.in-Some.source.now) _
    c.loop-index.invariant c.in_ok-stand.ensures
