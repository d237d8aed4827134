use Rattle.std.proofs.Common.{◌∙◌}
use Rattle.tree_model.specs.declared.type_tree.Dim.TheVariants.{Dynamic}
use Rattle.func_rows.proofs.PartLaws.{field_more}
use Rattle.func_rows.proofs.calls.array_fields.Goals as goal

pub each-preserved : goal.each-preserved
each-preserved c = λ next.
    c.each.invariant next
    ∙ field_more c.args.bits c.args.from c.args.field c.args.dims.now c.each.place Dynamic c.each.numbers _ c.in_ok-number.number c.each.writer c.extract_number_in.new.self c.each-test.true c.in_ok-push.ensures.ok c.in_ok-number.ensures next
