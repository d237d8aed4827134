use Rattle.std.proofs.Common.{◌∙◌, ap, sym, arith}
use Rattle.std.proofs.lemmas.Grind.{common_steps}
use Rattle.plain_tree.specs.Ops.{plain_op}
use Rattle.conversion_model.specs.Chosen.{chosen}
use Rattle.conversion_target.specs.Targets.{target_of}
use Rattle.row_code.specs.Shapes.{shape_of}
use Rattle.value_types.specs.Views.{type_at}
use Rattle.unit_choices.specs.Choosing.{choice_or_none}
use Rattle.unit_choices.proofs.KindLaws.{places_say}
use Rattle.unit_choices.proofs.by_place.choice.Goals as goal

pub returns-clause-is : goal.returns-clause-is
returns-clause-is g c = λ new apart.
    let table = g.S.Rows.table c.args.pass.now.set.now in
    places_say c.args.pass.now.bits (target_of c.args.pass.now.target.now) table new (type_at c.args.types.now) (plain_op c.args.op.now) (shape_of c.args.shape.now) c.order-places.result.now (choice_or_none new (type_at c.args.types.now) c.in_ok-found.found)
    c.requires.seen (grind (arith, common_steps)) (c.order-places.ensures ∙ c.requires.order c.args.shape.now.name) (c.in_ok-found.ensures.is new apart)
