use Rattle.std.proofs.Common.{◌∙◌, ap, map, sym}
use Rattle.plain_tree.specs.Ops.{plain_op, regions_in}
use Rattle.choice_code.specs.Plain.{plain_template}
use Rattle.unit_slots.specs.Slots.{plain_frame}
use Rattle.unit_writer.specs.Pages.{region_plain}
use Rattle.unit_writer.proofs.FrameLaws.{framed_by}
use Rattle.unit_writer.proofs.Layers.{regions_at}
use Rattle.unit_writer.proofs.function.framed.Goals as goal

pub returns : goal.returns
returns c =
    framed_by c.args.guide.now.slots.now c.args.guide.now.sizes.now (plain_frame c.args.framing.now.frame) (plain_template c.args.framing.now.entry) (plain_op c.args.function.now) (plain_op c.in_ok-op.op) (regions_in (map region_plain c.as_slice.result.now)) _ _ _
    (ap (λ rs. regions_in (map region_plain rs)) c.as_slice.ensures ∙ sym (regions_at c.args.function.now)) c.no_copy.ensures c.in_ok-op.ensures c.in_ok-regions.ensures
