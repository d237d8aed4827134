use Rattle.std.proofs.Common.{map}
use Rattle.plain_tree.specs.Types.{plain_type}
use Rattle.conversion_model.specs.Templates.{values_made}
use Rattle.unit_writer.specs.Names.{name_by}
use Rattle.unit_writer.proofs.NameLaws.{made_next, pushed_as}
use Rattle.unit_writer.proofs.line.Line.values.Goals as goal

pub loop-t-preserved : goal.loop-t-preserved
loop-t-preserved c =
    made_next (name_by c.args.self.now.names) _ _ _ (λ u. values_made (name_by c.args.self.now.names u) c.args.first (map plain_type c.args.types.now)) c.loop-t.list c.push.new.self c.args.types.now c.loop-t.t-index c.loop-t.place c.in_ok-place.place
    c.in_ok-number.number c.t-item.result c.loop-t-test.true c.t-item.is
    (pushed_as c.loop-t.list c.push.new.self c.in_ok-number.number c.in_ok-copy_type.field-0 c.t-item.result c.in_ok-copy_type.ensures c.in_ok-push.ensures.ok)
    c.in_ok-place.ensures c.in_ok-number.ensures c.loop-t.invariant
