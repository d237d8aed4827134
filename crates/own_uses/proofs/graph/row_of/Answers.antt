use Rattle.std.proofs.Common.{ap, sym, ◌∙◌}
use Rattle.plain_tree.specs.Ops.{plain_op, plain_values}
use Rattle.rule_model.specs.Chains.{op_operands}
use Rattle.rule_model.specs.Words.{numbers}
use Rattle.first_places.specs.Tables.{table_in}
use Rattle.own_uses.specs.Flat.{row_for}
use Rattle.own_uses.proofs.Layers.{results_at}
use Rattle.own_uses.proofs.graph.row_of.Goals as goal

pub returns : goal.returns
returns c =
    c.in_ok-row.ensures
    ∙ ap (λ vs. row_for (table_in c.args.makers.now) (numbers (plain_values vs)) (op_operands (plain_op c.args.op.now))) c.as_slice-results.ensures
    ∙ ap (λ ns. row_for (table_in c.args.makers.now) ns (op_operands (plain_op c.args.op.now))) (sym (results_at c.args.op.now))
