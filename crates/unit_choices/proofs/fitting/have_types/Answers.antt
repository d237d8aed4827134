use Rattle.std.proofs.Common.{ap, ◌∙◌}
use Rattle.plain_tree.specs.Types.{plain_type}
use Rattle.value_types.specs.Views.{type_at}
use Rattle.unit_choices.proofs.MemoLaws.{all_fit, more_fit}
use Rattle.unit_choices.proofs.fitting.have_types.Goals as goal

pub each-preserved : goal.each-preserved
each-preserved c =
    more_fit (type_at c.args.types.now) plain_type c.args.operands.now c.args.expected.now c.each.index 0 c.index-expected-index.result c.each-test.true c.if-operands-expected.false
    (c.has_type.ensures c.if-not-has_type.false ∙ ap plain_type c.index-expected-index.is) c.each.invariant

pub returns : goal.returns
returns c = λ t. all_fit (type_at c.args.types.now) plain_type c.args.operands.now c.args.expected.now c.each.index c.each-test.false c.if-operands-expected.false c.each.invariant
