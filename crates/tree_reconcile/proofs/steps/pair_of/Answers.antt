use Rattle.std.proofs.Common.{◌∙◌, ap}
use Rattle.plain_tree.proofs.TypeOpens.{plain-Void}
use Rattle.plain_tree.specs.Ops.{plain_op}
use Rattle.plain_tree.specs.Values.{types_of}
use Rattle.tree_reconcile.specs.Lines.{lines_at}
use Rattle.tree_reconcile.specs.Plans.{casts_by, singles}
use Rattle.tree_reconcile.specs.Views.{singles_at}
use Rattle.tree_reconcile.proofs.WholeLaws.{first_by, pair_seen}
use Rattle.tree_reconcile.proofs.steps.pair_of.Goals as goal

pub returns : goal.returns
returns c =
    pair_seen (plain_op c.args.f.now) c.in_ok-ops.ops.items (singles_at c.in_ok-casts.casts.items) c.in_ok-pair.pair
    c.in_ok-ops.ensures (c.in_ok-casts.ensures ∙ ap (λ xs. singles (lines_at xs)) c.as_slice.ensures.value)
    (c.in_ok-pair.ensures ∙ ap (λ cs. first_by (casts_by (types_of (plain_op c.args.f.now)) (singles_at cs))) c.as_slice-2.ensures.value)

pub pair_in-requires : goal.pair_in-requires
pair_in-requires c = plain-Void
