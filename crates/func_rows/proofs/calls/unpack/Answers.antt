use Rattle.std.proofs.Common.{◌∙◌}
use Rattle.func_rows.proofs.PartLaws.{unpack_more}
use Rattle.func_rows.proofs.calls.unpack.Goals as goal

pub each-preserved : goal.each-preserved
each-preserved c = λ next.
    c.each.invariant next
    ∙ unpack_more c.args.from c.args.types.now c.each.place c.index-types-place.result c.each.fields _ c.in_ok-field.field c.each.writer c.field_of.new.writer c.each-test.true c.index-types-place.is c.in_ok-push.ensures.ok c.in_ok-field.ensures next
