use Rattle.std.proofs.Common.{◌∙◌}
use Rattle.memref_rows.proofs.PartLaws.{stride_more}
use Rattle.memref_rows.proofs.layout.strides_behind.Goals as goal

pub each-preserved : goal.each-preserved
each-preserved c = λ next.
    c.each.invariant next
    ∙ stride_more c.args.bits c.each.left c.pop.new.self c.in-Some.size c.each.stride c.in_ok-stride.stride c.each.strides.items c.push.new.self.items c.each.writer c.arithmetic.new.self
    c.in-Some.ensures c.in_ok-push.ensures.items c.in_ok-stride.ensures next
