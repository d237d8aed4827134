use Rattle.std.proofs.Common.{subst}
use Rattle.std.specs.Prelude.{Result}
use Rattle.conversion_target.specs.Targets.{target_of}
use Rattle.plain_tree.specs.Ops.{plain_op}
use Rattle.unit_choices.specs.declared.unlegalised.UnlegalisedTree.{UnlegalisedTree}
use Rattle.unit_choices.specs.Answers.{Chooses, pass_of, unlegalised}
use Rattle.unit_slots.specs.declared.slots.Choices.{Choices}
use Rattle.unit_views.specs.Modes.{mode_of}
use Rattle.unit_conversion.proofs.StageLaws.{converts_all, converts_none}
use Rattle.unit_conversion.proofs.whole.convert.Goals as goal

pub returns-in-Err : goal.returns-in-Err
returns-in-Err g c =
    let p = pass_of (g.S.Rows.table c.args.pass.now.set.now) (target_of c.args.pass.now.target.now) (mode_of c.args.mode) c.args.blocks in
    converts_none p c.args.pass.now.bits (plain_op c.args.f.now) (unlegalised c.in-Err.failed)
    (λ new fresh. subst (λ (r : Result Choices UnlegalisedTree). Chooses p c.args.pass.now.bits new (plain_op c.args.f.now) r) c.in-Err.is (c.in_ok-failed.ensures c.args.blocks new fresh))

pub returns-in_ok-g-in-Ok : goal.returns-in_ok-g-in-Ok
returns-in_ok-g-in-Ok g c =
    let table = g.S.Rows.table c.args.pass.now.set.now in
    let target = target_of c.args.pass.now.target.now in
    let mode = mode_of c.args.mode in
    converts_all table target mode c.args.blocks c.args.pass.now.bits (plain_op c.args.f.now) (plain_op c.in_ok-g-in-Ok.g) c.in-Ok.chosen
    (λ new fresh. subst (λ (r : Result Choices UnlegalisedTree). Chooses (pass_of table target mode c.args.blocks) c.args.pass.now.bits new (plain_op c.args.f.now) r) c.in-Ok.is (c.in_ok-failed.ensures c.args.blocks new fresh))
    c.in_ok-g-in-Ok.ensures
