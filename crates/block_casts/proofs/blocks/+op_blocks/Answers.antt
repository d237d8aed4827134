use Rattle.std.proofs.Common.{[], ◌∷◌, ◌∙◌, ap, sym, map, arith}
use Rattle.std.proofs.lemmas.List.{map-append}
use Rattle.plain_tree.specs.Attrs.{plain_entries}
use Rattle.plain_tree.specs.Ops.{plain_op, plain_values}
use Rattle.tree_model.specs.declared.op_tree.OpTree.{out-OpTree}
use Rattle.tree_model.specs.declared.op_tree.BlockTree.{out-BlockTree}
use Rattle.conversion_model.specs.Conversion.{casts_back, new_arguments, op_blocks}
use Rattle.tree_uses.specs.Edited.{op_from, plain_block, plain_region}
use Rattle.tree_uses.specs.Rooms.{blocks_room, ops_room, regions_room}
use Rattle.tree_uses.proofs.RoomLaws.{blocks_last, ops_last, regions_last}
use Rattle.new_numbers.specs.Tables.{numbering_of, supply_of}
use Rattle.new_numbers.proofs.PlaceLaws.{extends_on}
use Rattle.block_casts.specs.Changed.{region_changed}
use Rattle.block_casts.proofs.ChangedLaws.{item_step}
use Rattle.block_casts.proofs.ChangedLayers.{block_step, later_parts, op_blocks_at}
use Rattle.block_casts.proofs.blocks.+op_blocks.Goals as goal

pub op_blocks-returns-clause-tree : goal.op_blocks-returns-clause-tree
op_blocks-returns-clause-tree t c = λ u e.
    let o = out-OpTree c.args.op in
    c.operation.ensures
    ∙ ap (λ rs. op_from o.name (plain_entries o.props) (plain_entries o.attrs) (plain_values o.results) o.operands rs o.successors) (c.in_ok-regions.ensures.tree u e)
    ∙ sym (op_blocks_at c.args.bits (λ label k. (supply_of u).argument label k) c.args.op)

pub later_block-returns-clause-tree : goal.later_block-returns-clause-tree
later_block-returns-clause-tree t c = λ u e.
    let e2 = extends_on (numbering_of c.converted.new.numbers) (numbering_of c.ops_of_block.new.numbers) u c.in_ok-ops.ensures.extends e in
    later_parts c.args.bits (λ label k. (supply_of u).argument label k) c.args.block (plain_block c.block_of.result) (plain_values c.in_ok-all.all.args) (map plain_op c.in_ok-all.all.casts) (map plain_op c.in_ok-ops.ops) (map plain_op c.in_ok-all_ops.all_ops)
    c.block_of.ensures c.in_ok-all_ops.ensures
    (c.in_ok-all.ensures.args u e2 ∙ ap (λ vs. new_arguments c.args.bits (λ k. (supply_of u).argument (out-BlockTree c.args.block).label k) 0 (plain_values vs)) c.as_slice.ensures)
    (λ more. c.in_ok-all.ensures.casts u e2 more ∙ ap (λ vs. casts_back c.args.bits (λ k. (supply_of u).argument (out-BlockTree c.args.block).label k) 0 (plain_values vs) more) c.as_slice.ensures)
    (c.in_ok-ops.ensures.tree u e)

pub regions_blocks-each-preserved : goal.regions_blocks-each-preserved
regions_blocks-each-preserved t c = (
  omega (arith, c.each.invariant.0, ap regions_room c.in-Some.ensures, regions_last c.pop.new.self c.in-Some.region),
  extends_on (numbering_of c.args.numbers.now) (numbering_of c.each.numbers) (numbering_of c.one_region.new.numbers) c.each.invariant.1 c.in_ok-region.ensures.extends,
  item_step plain_region (λ n. region_changed c.args.bits n) (numbering_of c.each.numbers) (numbering_of c.one_region.new.numbers) (map plain_region c.each.list) (map plain_region c.push.new.self) (map plain_region c.args.regions) c.each.left c.pop.new.self c.in-Some.region (plain_region c.in_ok-region.region)
      c.in-Some.ensures c.in_ok-region.ensures.extends (ap (map plain_region) c.in_ok-push.ensures.ok ∙ map-append plain_region c.each.list (c.in_ok-region.region ∷ [])) c.in_ok-region.ensures.tree c.each.invariant.2,
)

pub blocks_of_region-each-preserved : goal.blocks_of_region-each-preserved
blocks_of_region-each-preserved t c = (
  omega (arith, c.each.invariant.0, ap blocks_room c.in-Some.ensures, blocks_last c.pop.new.self c.in-Some.block),
  extends_on (numbering_of c.args.numbers.now) (numbering_of c.each.numbers) (numbering_of c.one_block.new.numbers) c.each.invariant.1 c.in_ok-block.ensures.extends,
  block_step c.args.bits c.each.is_first (numbering_of c.each.numbers) (numbering_of c.one_block.new.numbers) (map plain_block c.each.list) (map plain_block c.push.new.self) (map plain_block c.args.blocks) c.each.left c.pop.new.self c.in-Some.block (plain_block c.in_ok-block.block)
      c.in-Some.ensures c.in_ok-block.ensures.extends (ap (map plain_block) c.in_ok-push.ensures.ok ∙ map-append plain_block c.each.list (c.in_ok-block.block ∷ [])) c.in_ok-block.ensures.tree c.each.invariant.2,
)

pub ops_of_block-each-preserved : goal.ops_of_block-each-preserved
ops_of_block-each-preserved t c = (
  omega (arith, c.each.invariant.0, ap ops_room c.in-Some.ensures, ops_last c.pop.new.self c.in-Some.op),
  extends_on (numbering_of c.args.numbers.now) (numbering_of c.each.numbers) (numbering_of c.op_blocks.new.numbers) c.each.invariant.1 c.in_ok-op.ensures.extends,
  item_step plain_op (λ n. op_blocks c.args.bits n) (numbering_of c.each.numbers) (numbering_of c.op_blocks.new.numbers) (map plain_op c.each.list) (map plain_op c.push.new.self) (map plain_op c.args.ops) c.each.left c.pop.new.self c.in-Some.op (plain_op c.in_ok-op.op)
      c.in-Some.ensures c.in_ok-op.ensures.extends (ap (map plain_op) c.in_ok-push.ensures.ok ∙ map-append plain_op c.each.list (c.in_ok-op.op ∷ [])) c.in_ok-op.ensures.tree c.each.invariant.2,
)
