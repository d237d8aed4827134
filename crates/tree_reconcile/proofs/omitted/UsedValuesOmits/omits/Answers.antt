use Rattle.std.proofs.Common.{◌∙◌, ap}
use Rattle.std.specs.Prelude.{◌&&◌, not}
use Rattle.tree_reconcile.specs.Lines.{line_at}
use Rattle.tree_reconcile.specs.Views.{holds}
use Rattle.tree_reconcile.proofs.WholeLaws.{unused_test}
use Rattle.tree_reconcile.proofs.omitted.UsedValuesOmits.omits.Goals as goal

pub returns : goal.returns
returns c =
    unused_test (holds c.args.self.now.values) c.args.op.now c.both.result
    (c.both.ensures ∙ ap (λ x. x && not c.any_used.result) c.is_cast.ensures ∙ ap (λ x. (line_at c.args.op.now).is_cast && not x) c.any_used.ensures)
