use Rattle.std.proofs.Common.{◌∙◌}
use Rattle.pass_rows.specs.declared.parts.Part.TheVariants.{Scf}
use Rattle.pass_rows.proofs.PlaceLaws.{place_behind, place_here}
use Rattle.pass_rows.proofs.places.find.Goals as goal

pub returns-then-left-count : goal.returns-then-left-count
returns-then-left-count c = place_here c.args.parts.now c.each.part-index c.each.left c.size-count.result Scf c.each-test.true c.size-count.ensures c.if-left-count.true ∙ c.each.invariant

pub each-preserved : goal.each-preserved
each-preserved c = place_behind c.args.parts.now c.each.part-index c.each.left c.size-count.result Scf c.each-test.true c.size-count.ensures c.if-left-count.false ∙ c.each.invariant
