use Rattle.std.proofs.Common.{◌∙◌, arith}
use Rattle.std.proofs.lemmas.Grind.{common_steps}
use Rattle.memref_rows.proofs.PartLaws.{size_more}
use Rattle.memref_rows.proofs.layout.all_sizes.Goals as goal

pub each-preserved : goal.each-preserved
each-preserved c = record {
  part = λ next.
      c.each.invariant.part next
      ∙ size_more c.args.bits c.args.dims.now c.each.dim-index c.each.taken c.one_size.new.taken _ c.each.sizes _ c.in_ok-size.size c.each.writer c.one_size.new.writer
      c.each-test.true c.in_ok-push.ensures.ok c.in_ok-size.ensures next;
  count = grind (arith, common_steps);
}
