use Rattle.std.proofs.Common.{◌∙◌, ap}
use Rattle.plain_tree.specs.Ops.{plain_op}
use Rattle.conversion_model.specs.Reconciled.{reconciled}
use Rattle.unit_passes.proofs.MakesLaws.{reconciled_makes}
use Rattle.unit_passes.proofs.passes.reconciliation.Goals as goal

pub returns : goal.returns
returns c =
    reconciled_makes c.args.pass c.args.bits (plain_op c.args.f.now) (plain_op c.in_ok-g.g) c.requires
    (c.in_ok-g.ensures ∙ ap (λ t. reconciled (plain_op t)) c.in_ok-copy.ensures)
