use Rattle.std.proofs.Common.{◌-◌, ◌∙◌, ap, drop, length, map, refl, sym, take}
use Rattle.std.proofs.lemmas.List.{map-append}
use Rattle.plain_tree.specs.Ops.{blocks_in}
use Rattle.choice_code.specs.Plain.{plain_template}
use Rattle.unit_slots.specs.Slots.{plain_frame}
use Rattle.unit_writer.specs.Pages.{block_plain, region_plain}
use Rattle.unit_writer.specs.Sizes.{behind_blocks}
use Rattle.unit_writer.proofs.FrameLaws.{regions_by, split}
use Rattle.unit_writer.proofs.Layers.{region_plain_at}
use Rattle.unit_writer.proofs.function.new_regions.Goals as goal

pub returns : goal.returns
returns c =
    regions_by c.args.guide.now.slots.now c.args.guide.now.sizes.now (plain_frame c.args.framing.now.frame) (plain_template c.args.framing.now.entry) c.args.regions.now (take (length c.args.regions.now - 1) (drop 1 c.args.regions.now))
    c.first-item.result (map block_plain c.as_slice.result.now) c.in_ok-number.number _ _ _ _ _ _ _ (split c.args.regions.now _ c.first-item.result c.in-len1-up.len_at_least c.first-item.is refl)
    (ap (λ bs. blocks_in (map block_plain bs)) c.as_slice.ensures ∙ sym (region_plain_at c.first-item.result))
    (c.in_ok-number.ensures ∙ ap (λ bs. behind_blocks c.args.guide.now.sizes.now 1 (blocks_in (map block_plain bs))) (c.as_slice-2.ensures ∙ sym c.as_slice.ensures)) c.in_ok-list.ensures
    (ap (map region_plain) c.in_ok-append.ensures ∙ map-append region_plain c.in_ok-list.list c.in_ok-more.more) c.in_ok-blocks.ensures c.in_ok-more.ensures
