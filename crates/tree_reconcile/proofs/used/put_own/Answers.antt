use Rattle.std.proofs.Common.{◌==◌, sym, ap, ◌∙◌}
use Rattle.std.specs.Prelude.{◌||◌}
use Rattle.std.specs.List.{list_any}
use Rattle.tree_reconcile.specs.Views.{holds}
use Rattle.tree_reconcile.proofs.UsedSteps.{results_any}
use Rattle.tree_reconcile.proofs.used.put_own.Goals as goal

pub returns : goal.returns
returns c = λ v.
    c.in_ok-put_values.ensures v
    ∙ ap (λ b. b || holds c.args.results.now v) (ap (list_any (λ r. r.0 == v)) c.as_slice.ensures ∙ sym (results_any c.args.op.now (λ n. n == v)))
