use Rattle.conversion_target.specs.Targets.{target_of}
use Rattle.conversion_model.specs.Targets.{shape_of}
use Rattle.plain_tree.specs.Ops.{plain_op}
use Rattle.value_types.specs.Views.{type_at}
use Rattle.unit_views.specs.Modes.{mode_of}
use Rattle.unit_choices.proofs.MemoLaws.{line_known}
use Rattle.unit_choices.proofs.memo.remembered.Goals as goal

pub returns-then-fits : goal.returns-then-fits
returns-then-fits g c =
    line_known c.args.pass.now.bits (target_of c.args.pass.now.target.now) (g.R.Rows.table c.args.pass.now.set.now) (mode_of c.args.mode) c.args.memo.now c.each.known-index c.known-item.result (shape_of (type_at c.args.types.now) (plain_op c.args.op.now))
    c.each-test.true c.known-item.is (c.fits.ensures c.if-fits.true) c.requires
