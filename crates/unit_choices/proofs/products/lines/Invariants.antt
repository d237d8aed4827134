use Rattle.std.proofs.Common.{◌≡◌, drop}
use Rattle.conversion_model.specs.Chosen.{chosen}
use Rattle.conversion_target.specs.Targets.{target_of}
use Rattle.value_types.specs.Views.{type_at}
use Rattle.unit_choices.specs.Lines.{lines_in, plain_lines}
use Rattle.unit_choices.proofs.LineLaws.{lines_before}
use Rattle.unit_choices.proofs.products.lines.Given as goal

abbrev pub invariant-each : goal.invariant-each
invariant-each g l =
    let target = target_of l.pass.target.now in
    let leaves = chosen l.pass.bits target (g.R.Rows.table l.pass.set.now) l.path in
    lines_before (plain_lines l.all) (lines_in target leaves (type_at l.types) (drop l.piece-index l.pieces)) ≡ lines_in target leaves (type_at l.types) l.pieces
