use Rattle.std.proofs.Common.{◌≡◌, ◌∙◌, None, ap, sym, arith}
use Rattle.std.proofs.lemmas.Grind.{common_steps}
use Rattle.std.specs.Prelude.{slice_get}
use Rattle.plain_tree.specs.Ops.{plain_op}
use Rattle.conversion_model.specs.Chosen.{chosen}
use Rattle.conversion_target.specs.Targets.{target_of}
use Rattle.row_code.specs.Shapes.{shape_of}
use Rattle.value_types.specs.Views.{type_at}
use Rattle.choice_code.specs.Plain.{plain_or_none, plain_template}
use Rattle.unit_choices.specs.Choosing.{cut_or_none, frame_or_none}
use Rattle.unit_choices.proofs.KindLaws.{at_frame, at_line}
use Rattle.unit_choices.proofs.by_place.at_place.Goals as goal

pub returns-in-Some-clause-is : goal.returns-in-Some-clause-is
returns-in-Some-clause-is g c = λ new apart.
    let table = g.S.Rows.table c.args.pass.now.set.now in
    at_line c.args.pass.now.bits (chosen c.args.pass.now.bits (target_of c.args.pass.now.target.now) table) new (type_at c.args.types.now) (plain_op c.args.op.now) c.args.place (slice_get table c.args.place) (shape_of c.args.shape.now) (plain_template c.in-Some.line)
    c.requires.seen (sym (ap plain_or_none c.in-Some.is) ∙ c.in_ok-line.ensures)

pub returns-in-None-clause-is : goal.returns-in-None-clause-is
returns-in-None-clause-is g c = λ new apart.
    let table = g.S.Rows.table c.args.pass.now.set.now in
    let no_row : c.in_ok-line.field-0 ≡ None = grind (arith, common_steps) in
    let uncut : c.in_ok-cut.field-0 ≡ None = grind (arith, common_steps) in
    at_frame c.args.pass.now.bits (chosen c.args.pass.now.bits (target_of c.args.pass.now.target.now) table) new (type_at c.args.types.now) (plain_op c.args.op.now) c.args.place (slice_get table c.args.place) (shape_of c.args.shape.now) None
    c.requires.seen (sym (ap plain_or_none no_row) ∙ c.in_ok-line.ensures) (sym (ap (cut_or_none new (type_at c.args.types.now)) uncut) ∙ c.in_ok-cut.ensures.is new apart)
    (sym (ap frame_or_none c.in-None.is) ∙ c.in_ok-framing.ensures)
