use Rattle.std.proofs.Common.{◌∙◌, List, ap, drop, subst, Bor, Result, Vec}
use Rattle.std.specs.declared.alloc.Global.{Global}
use Rattle.tree_model.specs.declared.op_tree.OpTree.{OpTree}
use Rattle.plain_tree.specs.Ops.{plain_op}
use Rattle.conversion_target.specs.Targets.{target_of}
use Rattle.tree_walk.specs.Walks.{plain_ops}
use Rattle.value_types.specs.Views.{type_at}
use Rattle.unit_views.specs.Modes.{mode_of}
use Rattle.unit_slots.specs.declared.slots.Slot.{Slot}
use Rattle.unit_choices.specs.declared.unlegalised.UnlegalisedTree.{UnlegalisedTree}
use Rattle.unit_choices.specs.Answers.{SlotsAre, items_or, pass_of}
use Rattle.unit_choices.proofs.WholeLaws.{apart_inner, inner_ops, whole_chosen, whole_fails}
use Rattle.unit_choices.proofs.whole.with_framing.Goals as goal

pub returns-in-Ok : goal.returns-in-Ok
returns-in-Ok g c = λ blocks new fresh frame.
    let p = pass_of (g.S.Rows.table c.args.pass.now.set.now) (target_of c.args.pass.now.target.now) (mode_of c.args.mode) blocks in
    let f = plain_op c.args.f.now in
    let os = plain_ops c.behind_first-inner.result.now in
    let ops = inner_ops f c.in_ok-ops.ops.items c.behind_first-inner.result.now c.in_ok-ops.ensures (c.behind_first-inner.ensures ∙ ap (λ (list : List (Bor OpTree)). drop 1 list) c.as_slice.ensures.value) in
    whole_chosen p c.args.pass.now.bits new f (type_at c.args.types.now) os (record { framing = c.args.framing; slots = c.in-Ok.slots }) c.requires.types ops frame
    (subst (λ (r : Result (Vec Slot Global) UnlegalisedTree). SlotsAre p c.args.pass.now.bits new (type_at c.args.types.now) os (items_or r)) c.in-Ok.is
    (c.in_ok-slots.ensures blocks new (apart_inner new f (type_at c.args.types.now) os fresh c.requires.types ops)))

pub returns-in-Err : goal.returns-in-Err
returns-in-Err g c = λ blocks new fresh frame.
    let p = pass_of (g.S.Rows.table c.args.pass.now.set.now) (target_of c.args.pass.now.target.now) (mode_of c.args.mode) blocks in
    let f = plain_op c.args.f.now in
    let os = plain_ops c.behind_first-inner.result.now in
    let ops = inner_ops f c.in_ok-ops.ops.items c.behind_first-inner.result.now c.in_ok-ops.ensures (c.behind_first-inner.ensures ∙ ap (λ (list : List (Bor OpTree)). drop 1 list) c.as_slice.ensures.value) in
    whole_fails p c.args.pass.now.bits new f (type_at c.args.types.now) os c.args.framing c.in-Err.failed c.requires.types ops frame
    (subst (λ (r : Result (Vec Slot Global) UnlegalisedTree). SlotsAre p c.args.pass.now.bits new (type_at c.args.types.now) os (items_or r)) c.in-Err.is
    (c.in_ok-slots.ensures blocks new (apart_inner new f (type_at c.args.types.now) os fresh c.requires.types ops)))
