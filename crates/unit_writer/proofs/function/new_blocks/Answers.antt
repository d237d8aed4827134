use Rattle.std.proofs.Common.{◌-◌, ◌∙◌, ap, drop, length, map, refl, sym, take}
use Rattle.std.proofs.lemmas.List.{map-append}
use Rattle.plain_tree.specs.Ops.{ops_in, plain_op}
use Rattle.choice_code.specs.Plain.{plain_template}
use Rattle.unit_slots.specs.Slots.{plain_frame}
use Rattle.unit_writer.specs.Pages.{block_plain}
use Rattle.unit_writer.proofs.FrameLaws.{blocks_by, split}
use Rattle.unit_writer.proofs.Layers.{block_ops_at}
use Rattle.unit_writer.proofs.function.new_blocks.Goals as goal

pub returns : goal.returns
returns c =
    blocks_by c.args.guide.now.slots.now c.args.guide.now.sizes.now (plain_frame c.args.framing.now.frame) (plain_template c.args.framing.now.entry) c.args.blocks.now (take (length c.args.blocks.now - 1) (drop 1 c.args.blocks.now)) c.first-item.result
    (ops_in (map plain_op c.as_slice.result.now)) c.in_ok-number.number _ _ _ _ _ _ (split c.args.blocks.now _ c.first-item.result c.in-len1-up.len_at_least c.first-item.is refl)
    (ap (λ os. ops_in (map plain_op os)) c.as_slice.ensures ∙ sym (block_ops_at c.first-item.result)) c.in_ok-number.ensures
    (ap (map block_plain) c.in_ok-append.ensures ∙ map-append block_plain c.in_ok-list.list c.in_ok-more.more) c.in_ok-list.ensures c.in_ok-more.ensures
