use Rattle.std.proofs.Common.{◌∙◌, List, ℕ, [], ap, subst, sym, Option}
use Rattle.plain_tree.specs.Ops.{plain_op}
use Rattle.conversion_model.specs.Chosen.{Leaves, chosen}
use Rattle.conversion_model.specs.Targets.{Shape, demanded}
use Rattle.conversion_target.specs.Targets.{target_of}
use Rattle.value_types.specs.Views.{type_at}
use Rattle.unit_views.specs.Modes.{mode_of}
use Rattle.unit_choices.specs.declared.choice_tree.ChoiceTree.{ChoiceTree}
use Rattle.unit_choices.specs.Answers.{pass_of}
use Rattle.unit_choices.specs.Choosing.{ChoiceStands, choice_or_none}
use Rattle.unit_choices.specs.Slotting.{SlotFor}
use Rattle.unit_choices.proofs.SlotLaws.{slot_is}
use Rattle.unit_choices.proofs.slotting.chosen_slot.Goals as goal

pub returns-in_ok-slot-in-Some : goal.returns-in_ok-slot-in-Some
returns-in_ok-slot-in-Some g c = λ blocks new n apart.
    let target = target_of c.args.pass.now.target.now in
    let table = g.S.Rows.table c.args.pass.now.set.now in
    let leaves : List ℕ → Leaves = chosen c.args.pass.now.bits target table in
    slot_is (pass_of table target (mode_of c.args.mode) blocks) c.args.pass.now.bits new (type_at c.args.types.now) n (plain_op c.args.op.now) c.in-Some.found c.in_ok-slot-in-Some.slot
    (ap (demanded (mode_of c.args.mode) target) (sym c.requires.seen) ∙ c.requires.wanted)
    (sym (ap (choice_or_none (new.row n) (type_at c.args.types.now)) c.in-Some.is) ∙ c.in_ok-found.ensures.is (new.row n) apart)
    (subst (λ (x : Option ChoiceTree). ChoiceStands target leaves (type_at c.args.types.now) (plain_op c.args.op.now) x) c.in-Some.is c.in_ok-found.ensures.stands)
    apart
    (subst (λ (s : Shape). SlotFor (leaves [] s) c.in-Some.found c.in_ok-slot-in-Some.slot) c.requires.seen c.in_ok-slot-in-Some.ensures)
