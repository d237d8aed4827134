use Rattle.std.proofs.Common.{[], ap, ◌∙◌}
use Rattle.plain_tree.specs.Ops.{plain_op}
use Rattle.own_uses.specs.Flat.{grown, op_all}
use Rattle.own_uses.specs.Views.{plain_ops}
use Rattle.own_uses.proofs.Layers.{grown_is}
use Rattle.own_uses.proofs.flat.operations.Goals as goal

pub returns : goal.returns
returns c =
    c.in_ok-note_op.ensures
    ∙ ap (λ items. grown (plain_ops items) (op_all (plain_op c.args.function.now) [])) c.new-all.ensures.items
    ∙ grown_is [] (op_all (plain_op c.args.function.now) [])
