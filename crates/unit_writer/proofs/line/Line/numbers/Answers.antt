use Rattle.conversion_model.specs.Templates.{number_of}
use Rattle.unit_writer.specs.Names.{name_by}
use Rattle.unit_writer.proofs.NameLaws.{list_ended, list_next}
use Rattle.unit_writer.proofs.line.Line.numbers.Goals as goal

pub loop-source-preserved : goal.loop-source-preserved
loop-source-preserved c =
    list_next (λ u. number_of (name_by c.args.self.now.names u) c.args.self.now.operands.now) _ _ _ c.args.sources.now c.loop-source.source-index _ c.loop-source.list c.push.new.self c.in_ok-number.number c.loop-source-test.true
    c.in_ok-push.ensures.ok c.loop-source.invariant c.in_ok-number.ensures

pub returns : goal.returns
returns c = list_ended (λ u. number_of (name_by c.args.self.now.names u) c.args.self.now.operands.now) _ _ c.args.sources.now c.loop-source.source-index c.loop-source.list c.loop-source-test.false c.loop-source.invariant
