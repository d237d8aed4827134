use Rattle.std.proofs.Common.{◌∙◌}
use Rattle.tree_model.specs.declared.type_tree.TypeTree.{TypeTree}
use Rattle.tree_model.specs.declared.type_tree.TypeTree as type
use Rattle.plain_tree.specs.Types.{plain_type}
use Rattle.func_rows.proofs.PartLaws.{pack_more}
use Rattle.func_rows.proofs.returns.pack.Goals as goal

pub each-preserved : goal.each-preserved
each-preserved c = λ next.
    c.each.invariant next ∙ pack_more (plain_type c.args.t.now) c.args.types.now c.each.place type.Void c.each.made c.in_ok-made.made c.each.writer c.put_operand.new.writer c.each-test.true c.in_ok-made.ensures next
