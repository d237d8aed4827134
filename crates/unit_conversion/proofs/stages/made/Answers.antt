use Rattle.plain_tree.specs.Ops.{plain_op}
use Rattle.new_numbers.specs.Tables.{numbering_of}
use Rattle.unit_views.specs.Modes.{mode_of}
use Rattle.unit_conversion.proofs.StageLaws.{all_made}
use Rattle.unit_conversion.proofs.stages.made.Goals as goal

pub returns : goal.returns
returns c =
    all_made (mode_of c.args.mode) c.args.blocks c.args.bits c.args.chosen (plain_op c.args.f.now) (plain_op c.in_ok-op.field-0.op) (plain_op c.in_ok-converted.converted) (plain_op c.in_ok-g.g)
    (numbering_of c.in_ok-op.field-0.numbers) (numbering_of c.with_blocks.new.numbers) c.in_ok-converted.ensures.extends c.in_ok-op.ensures.fresh c.in_ok-op.ensures.op c.in_ok-converted.ensures.op c.in_ok-g.ensures
