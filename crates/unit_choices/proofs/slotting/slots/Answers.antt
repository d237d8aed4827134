use Rattle.std.proofs.Common.{◌≡◌, ◌+◌, None, Option, subst, arith}
use Rattle.std.proofs.lemmas.Grind.{common_steps}
use Rattle.plain_tree.specs.Ops.{plain_op}
use Rattle.conversion_target.specs.Targets.{target_of}
use Rattle.tree_walk.specs.Walks.{plain_ops}
use Rattle.value_types.specs.Views.{type_at}
use Rattle.unit_views.specs.Modes.{mode_of}
use Rattle.unit_slots.specs.declared.slots.Slot.{Slot}
use Rattle.unit_choices.specs.Answers.{pass_of, unlegalised}
use Rattle.unit_choices.specs.Slotting.{SlotIs}
use Rattle.unit_choices.proofs.SlotLaws.{separate_at, slots_end, slots_fail, slots_more}
use Rattle.unit_choices.proofs.WholeLaws.{above_ops, below_ops, one_more, op_at}
use Rattle.unit_choices.proofs.slotting.slots.Goals as goal

pub returns-in_default : goal.returns-in_default
returns-in_default g c = λ blocks new apart.
    let p = pass_of (g.S.Rows.table c.args.pass.now.set.now) (target_of c.args.pass.now.target.now) (mode_of c.args.mode) blocks in
    let o = plain_op c.index-ops-place.result.now in
    let os = plain_ops c.args.ops.now in
    let below = below_ops c.args.ops.now c.each.place c.each-test.true in
    let at = op_at c.args.ops.now c.each.place c.index-ops-place.result c.index-ops-place.is in
    let missing : c.in_ok-slot.field-0 ≡ None = grind (arith, common_steps) in
    slots_fail p c.args.pass.now.bits new (type_at c.args.types.now) os c.each.place o c.each.slots.items (unlegalised c.in_ok-failed.failed) below at
    (subst (λ (x : Option Slot). SlotIs p c.args.pass.now.bits new (type_at c.args.types.now) (c.each.place + 1) o x) missing
    (c.in_ok-slot.ensures.slot blocks new (c.each.place + 1) (separate_at new (type_at c.args.types.now) os c.each.place o below at apart (c.each.place + 1))))
    (c.each.invariant.2 blocks new apart) c.in_ok-failed.ensures

pub each-preserved : goal.each-preserved
each-preserved g c = (
  one_more c.each.slots.items c.push-in-each.new.self.items c.in-Some.slot (c.each.place + 1) c.each.invariant.0 c.in_ok-push-2.ensures.items,
  c.in_ok-slot.ensures.memo,
  λ blocks new apart.
      let p = pass_of (g.S.Rows.table c.args.pass.now.set.now) (target_of c.args.pass.now.target.now) (mode_of c.args.mode) blocks in
      let o = plain_op c.index-ops-place.result.now in
      let os = plain_ops c.args.ops.now in
      let below = below_ops c.args.ops.now c.each.place c.each-test.true in
      let at = op_at c.args.ops.now c.each.place c.index-ops-place.result c.index-ops-place.is in
      slots_more p c.args.pass.now.bits new (type_at c.args.types.now) os c.each.place o c.each.slots.items c.push-in-each.new.self.items c.in-Some.slot below at c.each.invariant.0 c.in_ok-push-2.ensures.items
      (subst (λ (x : Option Slot). SlotIs p c.args.pass.now.bits new (type_at c.args.types.now) (c.each.place + 1) o x) c.in-Some.is
      (c.in_ok-slot.ensures.slot blocks new (c.each.place + 1) (separate_at new (type_at c.args.types.now) os c.each.place o below at apart (c.each.place + 1))))
      (c.each.invariant.2 blocks new apart),
)

pub returns : goal.returns
returns g c = λ blocks new apart.
    slots_end (pass_of (g.S.Rows.table c.args.pass.now.set.now) (target_of c.args.pass.now.target.now) (mode_of c.args.mode) blocks) c.args.pass.now.bits new (type_at c.args.types.now) (plain_ops c.args.ops.now) c.each.place c.each.slots.items
    (above_ops c.args.ops.now c.each.place c.each-test.false) (c.each.invariant.2 blocks new apart)
