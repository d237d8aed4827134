use Rattle.std.proofs.Common.{◌∙◌}
use Rattle.tree_model.specs.declared.type_tree.Dim.TheVariants.{Dynamic}
use Rattle.plain_tree.specs.Types.{plain_type}
use Rattle.func_rows.proofs.PartLaws.{parameter_more}
use Rattle.func_rows.proofs.parts.insert_operands.Goals as goal

pub each-preserved : goal.each-preserved
each-preserved c = λ next.
    c.each.invariant next
    ∙ parameter_more c.args.field (plain_type c.args.t.now) c.args.dims.now c.each.operand c.in_ok-operand.operand c.each.place c.each.made c.in_ok-made.made Dynamic c.each.writer c.insert_in.new.self c.each-test.true c.in_ok-operand.ensures c.in_ok-made.ensures next
