use Rattle.std.proofs.Common.{◌+◌, map, sym, ap, ◌∙◌, arith}
use Rattle.std.proofs.lemmas.Bool.Decides.{nat_tests}
use Rattle.tree_model.specs.declared.op_tree.BlockTree.{out-BlockTree}
use Rattle.plain_tree.specs.Ops.{blocks_in, ops_in, plain_op, plain_values, regions_in}
use Rattle.unit_writer.specs.Pages.{block_plain, region_plain}
use Rattle.unit_writer.specs.Says.{slot_or}
use Rattle.unit_writer.proofs.Layers.{block_args_at, block_label_at, block_ops_at, layers, region_plain_at, regions_at}
use Rattle.unit_writer.proofs.WalkLaws.{ops_ended, ops_next, ops_stopped, blocks_ended, blocks_next, held_ended, held_here, held_next}
use Rattle.unit_writer.proofs.RegionLaws as region_laws
use Rattle.unit_writer.proofs.PieceLaws.{op_kept, op_line, pieces_ended, pieces_next}
use Rattle.unit_writer.proofs.CutLaws.{op_cut_by, opens_piece, product_piece}
use Rattle.unit_writer.proofs.walk.+write.Goals as goal

pub write_ops-loop-op-preserved : goal.write_ops-loop-op-preserved
write_ops-loop-op-preserved t c =
    ops_next _ _ _ _ _ _ _ c.args.ops.now c.loop-op.op-index c.loop-op.number c.op-item.result c.loop-op-test.true c.op-item.is _ _
    (sym c.stops_at.ensures ∙ c.if-stops_at.false) (c.in_ok-number.ensures ∙ ap (λ k. c.loop-op.number + k) c.size.ensures) c.loop-op.invariant c.in_ok-write_op.ensures

pub write_ops-returns-then-stops_at : goal.write_ops-returns-then-stops_at
write_ops-returns-then-stops_at t c =
    ops_stopped _ _ _ _ _ _ _ c.args.ops.now c.loop-op.op-index c.loop-op.number c.op-item.result c.loop-op-test.true c.op-item.is (sym c.stops_at.ensures ∙ c.if-stops_at.true) c.loop-op.invariant

pub write_ops-returns : goal.write_ops-returns
write_ops-returns t c = ops_ended _ _ _ _ _ _ _ c.args.ops.now c.loop-op.op-index c.loop-op.number c.loop-op-test.false c.loop-op.invariant

pub write_block-returns : goal.write_block-returns
write_block-returns t c =
    region_laws.block_written _ _ c.args.number (block_plain c.args.block.now) (ops_in (map plain_op c.as_slice-2.result.now)) _ _ _ _ (out-BlockTree c.args.block.now).label (plain_values c.in_ok-args.args) _
    (ap (λ os. ops_in (map plain_op os)) c.as_slice-2.ensures ∙ sym (block_ops_at c.args.block.now)) (sym (block_label_at c.args.block.now))
    (ap plain_values (c.in_ok-args.ensures ∙ c.as_slice.ensures) ∙ sym (block_args_at c.args.block.now)) c.new-page.ensures c.in_ok-blocks.ensures c.in_ok-write_ops.ensures

pub write_blocks-loop-block-preserved : goal.write_blocks-loop-block-preserved
write_blocks-loop-block-preserved t c =
    blocks_next _ _ c.args.blocks.now c.loop-block.block-index c.loop-block.number _ _ _ _ _ c.block-item.result c.loop-block-test.true c.block-item.is _ _ _ _ (grind (arith, layers)) (grind (arith, layers)) c.loop-block.invariant c.in_ok-more.ensures

pub write_blocks-returns : goal.write_blocks-returns
write_blocks-returns t c =
    blocks_ended _ _ c.args.blocks.now c.loop-block.block-index c.loop-block.number _ _ _ _ _ c.loop-block-test.false c.loop-block.invariant

pub write_cut-loop-index-preserved : goal.write_cut-loop-index-preserved
write_cut-loop-index-preserved t c =
    λ at. pieces_next _ _ _ _ _ _ _ _ c.args.pieces.now c.args.lines.now c.loop-index.index c.index-pieces-index.result c.loop-index-test.true c.index-pieces-index.is _ _ _ c.in_ok-place.ensures c.line_at.ensures (c.loop-index.invariant at) (c.in_ok-write_piece.ensures at)

pub write_cut-returns : goal.write_cut-returns
write_cut-returns t c =
    λ at. pieces_ended _ _ _ _ _ _ _ _ c.args.pieces.now c.args.lines.now c.loop-index.index c.loop-index-test.false (c.loop-index.invariant at)

pub write_held-returns-then-left-eq0 : goal.write_held-returns-then-left-eq0
write_held-returns-then-left-eq0 t c =
    region_laws.held_here _ _ c.args.regions.now c.loop-region.region-index c.loop-region.number _ _ _ _ _ _ c.region-item.result c.loop-region-test.true c.region-item.is (blocks_in (map block_plain c.as_slice.result.now)) _
    (ap (λ bs. blocks_in (map block_plain bs)) c.as_slice.ensures ∙ sym (region_plain_at c.region-item.result)) (grind (arith, nat_tests)) c.loop-region.invariant c.in_ok-write_held_in.ensures

pub write_held-loop-region-preserved : goal.write_held-loop-region-preserved
write_held-loop-region-preserved t c =
    region_laws.held_next _ _ c.args.regions.now c.loop-region.region-index c.loop-region.number _ _ _ _ _ _ c.region-item.result c.loop-region-test.true c.region-item.is _ _ (grind (arith, layers)) (grind (arith, nat_tests)) (grind (arith, nat_tests)) c.loop-region.invariant

pub write_held-returns : goal.write_held-returns
write_held-returns t c =
    region_laws.held_ended _ _ c.args.regions.now c.loop-region.region-index c.loop-region.number _ _ _ _ _ _ c.loop-region-test.false c.loop-region.invariant

pub write_held_in-returns-then-left-eq0 : goal.write_held_in-returns-then-left-eq0
write_held_in-returns-then-left-eq0 t c =
    held_here _ _ c.args.blocks.now c.loop-block.block-index c.loop-block.number _ _ _ _ _ c.block-item.result c.loop-block-test.true c.block-item.is (ops_in (map plain_op c.as_slice.result.now)) _
    (ap (λ os. ops_in (map plain_op os)) c.as_slice.ensures ∙ sym (block_ops_at c.block-item.result)) (grind (arith, nat_tests)) c.loop-block.invariant c.in_ok-write_ops.ensures

pub write_held_in-loop-block-preserved : goal.write_held_in-loop-block-preserved
write_held_in-loop-block-preserved t c =
    held_next _ _ c.args.blocks.now c.loop-block.block-index c.loop-block.number _ _ _ _ _ c.block-item.result c.loop-block-test.true c.block-item.is _ _ (grind (arith, layers)) (grind (arith, nat_tests)) (grind (arith, nat_tests)) c.loop-block.invariant

pub write_held_in-returns : goal.write_held_in-returns
write_held_in-returns t c =
    held_ended _ _ c.args.blocks.now c.loop-block.block-index c.loop-block.number _ _ _ _ _ c.loop-block-test.false c.loop-block.invariant

pub write_kept-returns : goal.write_kept-returns
write_kept-returns t c =
    region_laws.kept_put _ _ c.args.number c.in_ok-first.first (plain_op c.args.op.now) (regions_in (map region_plain c.as_slice.result.now)) _ _ _ c.in_ok-first.ensures
    (ap (λ rs. regions_in (map region_plain rs)) c.as_slice.ensures ∙ sym (regions_at c.args.op.now)) c.put_kept.ensures.other c.in_ok-put_kept.ensures.put c.in_ok-regions.ensures

pub write_op-returns-in_ok-write_line-in-Some-Line : goal.write_op-returns-in_ok-write_line-in-Some-Line
write_op-returns-in_ok-write_line-in-Some-Line t c =
    op_line _ _ c.args.number (plain_op c.args.op.now) _ _ (slot_or c.slot.result) c.in-Some-Line.template c.as_ref.result.now c.slot.ensures (ap slot_or c.in-Some-Line.is ∙ c.in-Some-Line.field-0-is) c.as_ref.ensures c.in_ok-write_line-in-Some-Line.ensures

pub write_op-returns-in_ok-write_cut-in-Some-Cuts : goal.write_op-returns-in_ok-write_cut-in-Some-Cuts
write_op-returns-in_ok-write_cut-in-Some-Cuts t c =
    op_cut_by _ _ c.args.number (plain_op c.args.op.now) _ _ (slot_or c.slot.result) c.in-Some-Cuts.cut c.as_slice.result.now c.as_slice-in-Some-Cuts.result.now c.slot.ensures (ap slot_or c.in-Some-Cuts.is ∙ c.in-Some-Cuts.field-0-is)
    c.as_slice.ensures c.as_slice-in-Some-Cuts.ensures (c.in_ok-write_cut-in-Some-Cuts.ensures c.in-Some-Cuts.cut.place)

pub write_op-returns-in_ok-write_kept-in-None : goal.write_op-returns-in_ok-write_kept-in-None
write_op-returns-in_ok-write_kept-in-None t c =
    op_kept _ _ c.args.number (plain_op c.args.op.now) _ _ (slot_or c.slot.result) c.slot.ensures (ap slot_or c.in-None.is) c.in_ok-write_kept-in-None.ensures

pub write_op-returns-in_ok-write_kept-in-Some-Keeps : goal.write_op-returns-in_ok-write_kept-in-Some-Keeps
write_op-returns-in_ok-write_kept-in-Some-Keeps t c =
    op_kept _ _ c.args.number (plain_op c.args.op.now) _ _ (slot_or c.slot.result) c.slot.ensures (ap slot_or c.in-Some-Keeps.is ∙ c.in-Some-Keeps.field-0-is) c.in_ok-write_kept-in-Some-Keeps.ensures

pub write_piece-returns-in_ok-write_product-in-Product : goal.write_piece-returns-in_ok-write_product-in-Product
write_piece-returns-in_ok-write_product-in-Product t c =
    λ at. product_piece c.args.place.0 at c.args.place.1 _ _ c.args.piece.now _ _ _ c.in-Product.product c.in-Product.is c.in_ok-write_product-in-Product.ensures

pub write_piece-returns-in_ok-write_opens-in-Opens : goal.write_piece-returns-in_ok-write_opens-in-Opens
write_piece-returns-in_ok-write_opens-in-Opens t c =
    λ at. opens_piece c.args.place.0 at c.args.place.1 _ _ c.args.piece.now _ _ _ c.in-Opens.label c.in-Opens.args (plain_values c.as_slice.result.now) c.in-Opens.is (ap plain_values c.as_slice.ensures) c.in_ok-write_opens-in-Opens.ensures

pub write_regions-loop-region-preserved : goal.write_regions-loop-region-preserved
write_regions-loop-region-preserved t c =
    region_laws.regions_next _ _ c.args.regions.now c.loop-region.region-index c.loop-region.number _ _ _ _ _ c.region-item.result c.loop-region-test.true c.region-item.is (blocks_in (map block_plain c.as_slice.result.now))
    _ (region_plain c.region_of.result) _ _ _ (ap (λ bs. blocks_in (map block_plain bs)) c.as_slice.ensures ∙ sym (region_plain_at c.region-item.result))
    (grind (arith, layers)) c.region_of.ensures (grind (arith, layers)) c.loop-region.invariant c.in_ok-blocks.ensures

pub write_regions-returns : goal.write_regions-returns
write_regions-returns t c =
    region_laws.regions_ended _ _ c.args.regions.now c.loop-region.region-index c.loop-region.number _ _ _ _ _ c.loop-region-test.false c.loop-region.invariant
