use Rattle.std.proofs.Common.{◌∙◌}
use Rattle.tree_model.specs.declared.type_tree.Dim.TheVariants.{Dynamic}
use Rattle.memref_rows.proofs.PartLaws.{offset_more}
use Rattle.memref_rows.proofs.places.whole_offset.Goals as goal

pub each-preserved : goal.each-preserved
each-preserved c = λ next.
    c.each.invariant next
    ∙ offset_more c.args.bits c.args.from c.args.dims.now c.each.operand c.in_ok-operand.operand c.each.place c.each.offset c.in_ok-offset.offset Dynamic c.each.writer c.one_offset.new.writer
    c.each-test.true c.in_ok-operand.ensures c.in_ok-offset.ensures next
