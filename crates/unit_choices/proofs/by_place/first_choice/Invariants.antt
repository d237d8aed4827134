use Rattle.std.proofs.Common.{◌≡◌, drop}
use Rattle.plain_tree.specs.Ops.{plain_op}
use Rattle.conversion_model.specs.Rows.{Numbers}
use Rattle.conversion_model.specs.Chosen.{chosen}
use Rattle.conversion_target.specs.Targets.{target_of}
use Rattle.value_types.specs.Views.{type_at}
use Rattle.unit_choices.specs.Choosing.{choice_by}
use Rattle.unit_choices.specs.Separate.{Separate}
use Rattle.unit_choices.proofs.by_place.first_choice.Given as goal

abbrev pub invariant-each : goal.invariant-each
invariant-each g l =
    let table = g.S.Rows.table l.pass.set.now in
    let leaves = chosen l.pass.bits (target_of l.pass.target.now) table in
    (new : Numbers) → Separate new (type_at l.types) (plain_op l.op)
    → choice_by l.pass.bits table leaves new (type_at l.types) (plain_op l.op) (drop l.place-index l.places) ≡ choice_by l.pass.bits table leaves new (type_at l.types) (plain_op l.op) l.places
