use Rattle.std.proofs.Common.{◌∙◌, ap}
use Rattle.std.specs.List.{list_any}
use Rattle.plain_tree.specs.Ops.{plain_op}
use Rattle.stand_ins.specs.Tables.{stands_for}
use Rattle.tree_reconcile.specs.Lines.{is_unused, line_at, lines_at, uses}
use Rattle.tree_reconcile.specs.Views.{holds}
use Rattle.tree_uses.specs.Edited.{edited}
use Rattle.tree_reconcile.proofs.LineLaws.{test_of}
use Rattle.tree_reconcile.proofs.WholeLaws.{no_round, round_edit, unused_seen}
use Rattle.tree_reconcile.proofs.steps.next_round.Goals as goal

pub returns-then-not-any_unused : goal.returns-then-not-any_unused
returns-then-not-any_unused c =
    no_round (plain_op c.args.f.now) c.any_unused.result
    (unused_seen (plain_op c.args.f.now) c.in_ok-ops.ops.items (holds c.in_ok-values.values) c.any_unused.result c.in_ok-ops.ensures
    (c.in_ok-values.ensures ∙ ap (λ xs. uses (lines_at xs)) c.as_slice.ensures.value)
    (c.any_unused.ensures ∙ ap (list_any (λ o. is_unused (holds c.in_ok-values.values) (line_at o.now))) c.as_slice-2.ensures.value))
    c.if-not-any_unused.true

pub returns : goal.returns
returns c =
    round_edit (plain_op c.args.f.now) c.in_ok-ops.ops.items (holds c.in_ok-values.values) (stands_for c.new.result) c.any_unused.result (plain_op c.in_ok-tree.tree) c.in_ok-ops.ensures
    (c.in_ok-values.ensures ∙ ap (λ xs. uses (lines_at xs)) c.as_slice.ensures.value)
    (unused_seen (plain_op c.args.f.now) c.in_ok-ops.ops.items (holds c.in_ok-values.values) c.any_unused.result c.in_ok-ops.ensures
    (c.in_ok-values.ensures ∙ ap (λ xs. uses (lines_at xs)) c.as_slice.ensures.value)
    (c.any_unused.ensures ∙ ap (list_any (λ o. is_unused (holds c.in_ok-values.values) (line_at o.now))) c.as_slice-2.ensures.value))
    c.if-not-any_unused.false c.new.ensures.itself
    (c.in_ok-tree.ensures ∙ ap (λ t. edited (stands_for c.new.result) (test_of (is_unused (holds c.in_ok-values.values))) (plain_op t)) c.in_ok-copy.ensures)
