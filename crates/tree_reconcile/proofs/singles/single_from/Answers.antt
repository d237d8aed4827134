use Rattle.std.proofs.Common.{◌∙◌, ap, arith}
use Rattle.tree_reconcile.specs.Plans.{single_of}
use Rattle.std.specs.Prelude.{true}
use Rattle.tree_reconcile.proofs.SingleLaws.{not_one, one_only}
use Rattle.tree_reconcile.proofs.singles.single_from.Goals as goal

pub returns-then-results-ne1 : goal.returns-then-results-ne1
returns-then-results-ne1 c = not_one c.args.results.now c.args.operands.now (λ e. absurd (omega (arith, e)))

pub returns : goal.returns
returns c =
    c.single_of.ensures ∙ ap (λ rs. single_of true rs c.args.operands.now) (one_only c.args.results.now _ (omega arith) c.index-results-0.is)
