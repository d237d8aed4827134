use Rattle.std.proofs.Common.{Option, Result, subst}
use Rattle.plain_tree.specs.Ops.{plain_op}
use Rattle.conversion_target.specs.Targets.{target_of}
use Rattle.value_types.specs.Views.{type_at}
use Rattle.unit_views.specs.Modes.{mode_of}
use Rattle.unit_slots.specs.declared.slots.Framing.{Framing}
use Rattle.unit_choices.specs.declared.unlegalised.UnlegalisedTree.{UnlegalisedTree}
use Rattle.unit_choices.specs.Answers.{FramingIs, pass_of}
use Rattle.unit_choices.proofs.WholeLaws.{apart_first, frame_fails}
use Rattle.unit_choices.proofs.whole.choices.Goals as goal

pub returns-in-Ok : goal.returns-in-Ok
returns-in-Ok g c = λ blocks new fresh.
    let p = pass_of (g.S.Rows.table c.args.pass.now.set.now) (target_of c.args.pass.now.target.now) (mode_of c.args.mode) blocks in
    let f = plain_op c.args.f.now in
    c.in_ok-chosen-in-Ok.ensures blocks new fresh
    (subst (λ (r : Result (Option Framing) UnlegalisedTree). FramingIs p c.args.pass.now.bits new (type_at c.in_ok-types.types) f r) c.in-Ok.is
    (c.in_ok-framing.ensures blocks new (apart_first new f (type_at c.in_ok-types.types) fresh c.in_ok-types.ensures)))

pub returns : goal.returns
returns g c = λ blocks new fresh.
    let p = pass_of (g.S.Rows.table c.args.pass.now.set.now) (target_of c.args.pass.now.target.now) (mode_of c.args.mode) blocks in
    let f = plain_op c.args.f.now in
    frame_fails p c.args.pass.now.bits new f (type_at c.in_ok-types.types) c.in-Err.failed c.in_ok-types.ensures
    (subst (λ (r : Result (Option Framing) UnlegalisedTree). FramingIs p c.args.pass.now.bits new (type_at c.in_ok-types.types) f r) c.in-Err.is
    (c.in_ok-framing.ensures blocks new (apart_first new f (type_at c.in_ok-types.types) fresh c.in_ok-types.ensures)))
