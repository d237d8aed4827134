use Rattle.std.proofs.Common.{ap, ◌∙◌, sym}
use Rattle.plain_tree.specs.Types.{plain_type}
use Rattle.unit_choices.proofs.MemoLaws.{all_fit, more_fit}
use Rattle.unit_choices.proofs.fitting.are_of.Goals as goal

pub each-preserved : goal.each-preserved
each-preserved c =
    more_fit (λ v. plain_type v.1) plain_type c.args.results.now c.args.expected.now c.each.index c.index-results-index.result c.index-expected-index.result c.each-test.true c.if-results-expected.false
    (sym (ap (λ v. plain_type v.1) c.index-results-index.is) ∙ c.is_of.ensures c.if-not-is_of.false ∙ ap plain_type c.index-expected-index.is) c.each.invariant

pub returns : goal.returns
returns c = λ t. all_fit (λ v. plain_type v.1) plain_type c.args.results.now c.args.expected.now c.each.index c.each-test.false c.if-results-expected.false c.each.invariant
