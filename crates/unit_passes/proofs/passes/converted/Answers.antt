use Rattle.std.proofs.Common.{ap, ◌∙◌}
use Rattle.plain_tree.specs.Ops.{plain_op}
use Rattle.unit_conversion.specs.Converts.{answer}
use Rattle.unit_views.specs.Modes.{mode_of}
use Rattle.pass_fold.specs.Makes.{made}
use Rattle.pass_own.proofs.OwnLaws.{passes_take_own}
use Rattle.ready_passes.specs.Runs.{pass_blocks, pass_mode}
use Rattle.unit_passes.proofs.MakesLaws.{ordered, ready_makes}
use Rattle.unit_passes.proofs.passes.converted.Goals as goal

pub convert-requires-clause-order : goal.convert-requires-clause-order
convert-requires-clause-order c = ordered c.args.ready.now c.tables-tables.result.set.now c.tables-tables.result.target.now c.tables-tables.result.graph.now c.tables-tables.ensures.set c.tables-tables.ensures.target c.tables-tables.ensures.graph

pub convert-requires-clause-own : goal.convert-requires-clause-own
convert-requires-clause-own c = passes_take_own c.tables-tables.result.set.now.pass c.tables-tables.result.bits

pub returns : goal.returns
returns c = ready_makes c.args.ready.now c.tables-tables.result.set.now c.tables-tables.result.target.now (mode_of c.mode_of_pass-mode.result) c.converts_blocks-blocks.result c.args.bits c.tables-tables.result.bits
    (plain_op c.args.f.now) (answer c.in_ok-converted.converted) (made c.made_by.result) c.tables-tables.ensures.set c.tables-tables.ensures.target
    (c.mode_of_pass-mode.ensures ∙ ap pass_mode c.pass.ensures) (c.converts_blocks-blocks.ensures ∙ ap pass_blocks c.pass-2.ensures) c.tables-tables.ensures.bits c.made_by.ensures c.requires c.in_ok-converted.ensures
