use Rattle.std.proofs.Common.{ap, refl}
use Rattle.plain_tree.specs.Ops.{plain_op}
use Rattle.conversion_model.specs.Targets.{shape_of}
use Rattle.conversion_target.specs.Targets.{target_of}
use Rattle.value_types.specs.Views.{type_at}
use Rattle.choice_code.specs.Plain.{plain_template}
use Rattle.unit_views.specs.Modes.{mode_of}
use Rattle.unit_choices.specs.Answers.{pass_of}
use Rattle.unit_choices.proofs.MemoLaws.{line_is}
use Rattle.unit_choices.proofs.slotting.one_slot.Goals as goal

pub returns-in-Some-clause-slot : goal.returns-in-Some-clause-slot
returns-in-Some-clause-slot g c = λ blocks new n apart.
    line_is (pass_of (g.S.Rows.table c.args.pass.now.set.now) (target_of c.args.pass.now.target.now) (mode_of c.args.mode) blocks) c.args.pass.now.bits new (type_at c.args.types.now) n (plain_op c.args.op.now) c.in_ok-line.line
    (shape_of (type_at c.args.types.now) (plain_op c.args.op.now)) (plain_template c.in-Some.line.now.value) refl (ap plain_template c.in_ok-line.ensures.cases) c.in-Some.ensures apart
