use Rattle.std.proofs.Common.{◌≡◌, ap, arith}
use Rattle.pattern_model.specs.PassTable.{patterns_with, root_count}
use Rattle.pass_rows.specs.declared.parts.Part.TheVariants.{Scf}
use Rattle.pass_rows.specs.Parts.{patterns_at}
use Rattle.ready_passes.proofs.RootLaws.{count_step, few}
use Rattle.ready_passes.proofs.roots.count_patterns.Goals as goal

pub overflow_add-count : goal.overflow_add-count
overflow_add-count c =
    let step = count_step c.args.name.now c.parts_of-parts.result.now c.each.part-index c.each.count c.count_in-count.result _ Scf c.each-test.true c.count_in-count.ensures c.each.invariant in
    let all : root_count c.args.name.now (patterns_at c.parts_of-parts.result.now) ≡ patterns_with c.args.pass c.args.name.now = ap (root_count c.args.name.now) c.parts_of-parts.ensures in
    let most = few c.args.pass c.args.name.now in
    omega arith

pub each-preserved : goal.each-preserved
each-preserved c = count_step c.args.name.now c.parts_of-parts.result.now c.each.part-index c.each.count c.count_in-count.result _ Scf c.each-test.true c.count_in-count.ensures c.each.invariant
