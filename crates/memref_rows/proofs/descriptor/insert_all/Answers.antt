use Rattle.std.proofs.Common.{◌∙◌}
use Rattle.plain_tree.specs.Types.{plain_type}
use Rattle.memref_rows.proofs.PartLaws.{insert_more}
use Rattle.memref_rows.proofs.descriptor.insert_all.Goals as goal

pub each-preserved : goal.each-preserved
each-preserved c = λ next.
    c.each.invariant next
    ∙ insert_more c.args.field (plain_type c.args.t.now) c.args.values.now c.each.place c.each.made c.in_ok-made.made _ c.each.writer c.insert_in.new.self
    c.each-test.true c.in_ok-made.ensures next
