use Rattle.std.proofs.Common.{sym, ◌∙◌, ◌∷◌, []}
use Rattle.plain_tree.specs.Ops.{plain_op}
use Rattle.conversion_model.specs.Chosen.{chosen}
use Rattle.conversion_target.specs.Targets.{target_of}
use Rattle.row_code.specs.Shapes.{shape_of}
use Rattle.unit_choices.specs.Choosing.{frame_or_none}
use Rattle.unit_choices.proofs.FrameLaws.{frame_at}
use Rattle.unit_choices.proofs.frames.frame_choice.Goals as goal

pub returns : goal.returns
returns g c =
    let table = g.S.Rows.table c.args.pass.now.set.now in
    frame_at c.args.pass.now.bits table (chosen c.args.pass.now.bits (target_of c.args.pass.now.target.now) table (c.args.place ∷ [])) (plain_op c.args.op.now) (shape_of c.args.shape.now) c.args.place
    c.infos.result.now c.in-Some.frame c.is_converted-converted.result (frame_or_none c.in_ok-framing.framing)
    (sym c.in-Some.is ∙ c.in_ok-frame.ensures) c.infos.ensures c.is_converted-converted.ensures c.in_ok-framing.ensures
