use Rattle.std.proofs.Common.{sym, ap, ◌∙◌}
use Rattle.std.specs.List.{list_any}
use Rattle.tree_reconcile.specs.Views.{holds}
use Rattle.tree_reconcile.proofs.UsedSteps.{results_any}
use Rattle.tree_reconcile.proofs.used.any_used.Goals as goal

pub returns : goal.returns
returns c =
    c.any_in.ensures ∙ ap (list_any (λ r. holds c.args.used.now r.0)) c.as_slice.ensures ∙ sym (results_any c.args.op.now (holds c.args.used.now))
