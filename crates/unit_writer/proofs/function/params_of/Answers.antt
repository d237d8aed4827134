use Rattle.std.proofs.Common.{[]}
use Rattle.unit_writer.specs.Functions.{entry_types, params_behind}
use Rattle.unit_writer.proofs.ParamLaws.{part_next}
use Rattle.unit_writer.proofs.function.params_of.Goals as goal

pub loop-part-preserved : goal.loop-part-preserved
loop-part-preserved c =
    part_next _ _ _ (λ u. params_behind u [] (entry_types c.args.entry.now)) c.loop-part.params c.add_params.new.params c.args.entry.now c.loop-part.part-index c.part-item.result c.as_slice.result.now c.loop-part-test.true c.part-item.is
    c.as_slice.ensures c.in_ok-add_params.ensures c.loop-part.invariant
