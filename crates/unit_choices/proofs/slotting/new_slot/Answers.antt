use Rattle.std.proofs.Common.{Option, ap, subst, sym, ◌∙◌}
use Rattle.std.specs.Prelude.{IfSome}
use Rattle.plain_tree.specs.Ops.{plain_op}
use Rattle.conversion_model.specs.declared.templates.TemplateTree.{TemplateTree}
use Rattle.conversion_target.specs.Targets.{target_of}
use Rattle.row_code.specs.Shapes.{shape_of}
use Rattle.value_types.specs.Views.{type_at}
use Rattle.choice_code.specs.Plain.{plain_template}
use Rattle.unit_views.specs.Modes.{mode_of}
use Rattle.unit_choices.specs.Answers.{pass_of}
use Rattle.unit_choices.specs.Memos.{Becomes, LineOf}
use Rattle.unit_choices.proofs.MemoLaws.{line_is}
use Rattle.unit_choices.proofs.slotting.new_slot.Goals as goal

pub returns-in_ok-line-in-Some-clause-slot : goal.returns-in_ok-line-in-Some-clause-slot
returns-in_ok-line-in-Some-clause-slot g c = λ blocks new n apart.
    let target = target_of c.args.pass.now.target.now in
    let table = g.S.Rows.table c.args.pass.now.set.now in
    let line : LineOf c.args.pass.now.bits target table (mode_of c.args.mode) (shape_of c.in_ok-shape.shape) (plain_template c.in-Some.line) = record {
      wanted = sym c.is_demanded.ensures ∙ c.if-not-is_demanded.false;
      becomes = subst (λ (x : Option TemplateTree). IfSome x (λ t. Becomes c.args.pass.now.bits target table (shape_of c.in_ok-shape.shape) (plain_template t))) c.in-Some.is c.in_ok-line.ensures;
    } in
    line_is (pass_of table target (mode_of c.args.mode) blocks) c.args.pass.now.bits new (type_at c.args.types.now) n (plain_op c.args.op.now) c.in_ok-line-in-Some.line (shape_of c.in_ok-shape.shape) (plain_template c.in-Some.line)
    c.in_ok-shape.ensures (ap plain_template c.in_ok-line-in-Some.ensures.line) line apart
