use Rattle.std.proofs.Common.{◌∙◌, ap, map, refl, sym}
use Rattle.plain_tree.specs.Ops.{ops_in, plain_op, plain_values}
use Rattle.choice_code.specs.Plain.{plain_template}
use Rattle.conversion_model.specs.Templates.{numbers}
use Rattle.unit_slots.specs.Slots.{plain_frame}
use Rattle.unit_writer.specs.Functions.{entry_types}
use Rattle.unit_writer.specs.Pages.{block_plain}
use Rattle.unit_writer.proofs.FrameLaws.{first_by}
use Rattle.unit_writer.proofs.Layers.{block_args_at, block_label_at, block_ops_at}
use Rattle.unit_writer.proofs.function.first_block.Goals as goal

pub returns : goal.returns
returns c =
    first_by c.args.guide.now.slots.now c.args.guide.now.sizes.now (plain_frame c.args.framing.now.frame) (plain_template c.args.framing.now.entry) (block_plain c.args.block.now) _ _ _ _ (entry_types c.as_slice.result.now)
    (plain_values c.in_ok-params.params) (plain_values c.as_slice-3.result.now) c.as_slice-4.result.now _ (ops_in (map plain_op c.as_slice-5.result.now)) _ _ _ _ _
    (ap entry_types c.as_slice.ensures) c.in_ok-params.ensures refl (sym (block_label_at c.args.block.now)) (ap plain_values c.as_slice-3.ensures ∙ sym (block_args_at c.args.block.now))
    (c.as_slice-4.ensures ∙ c.in_ok-operands.ensures ∙ ap (λ vs. numbers (plain_values vs)) c.as_slice-2.ensures) refl (ap (λ os. ops_in (map plain_op os)) c.as_slice-5.ensures ∙ sym (block_ops_at c.args.block.now))
    c.new-page.ensures c.in_ok-blocks.ensures c.in_ok-write_template.ensures c.in_ok-write_ops.ensures
