use Rattle.std.proofs.Common.{◌==◌, ◌∙◌, ap}
use Rattle.plain_tree.specs.Ops.{plain_op}
use Rattle.stand_ins.specs.Tables.{stands_for}
use Rattle.tree_uses.specs.Edited.{edited}
use Rattle.tree_reconcile.specs.Plans.{is_gone}
use Rattle.tree_reconcile.proofs.LineLaws.{test_of}
use Rattle.tree_reconcile.proofs.WholeLaws.{pair_edit}
use Rattle.tree_reconcile.proofs.steps.without_pair.Goals as goal

pub returns : goal.returns
returns c =
    pair_edit (plain_op c.args.f.now) c.args.pair (stands_for c.replace.new.self) (stands_for c.new-to.result) (plain_op c.in_ok-tree.tree)
    c.in_ok-replace.ensures.replaced c.new-to.ensures.itself
    (c.in_ok-tree.ensures ∙ ap (λ t. edited (stands_for c.replace.new.self) (test_of (is_gone (λ n. n == c.args.pair.0))) (plain_op t)) c.in_ok-copy.ensures)
