use Rattle.std.proofs.Common.{◌++◌, arith, map}
use Rattle.plain_tree.specs.Types.{plain_type}
use Rattle.plain_tree.specs.Ops.{plain_values}
use Rattle.unit_writer.specs.Functions.{params_behind}
use Rattle.unit_writer.proofs.NameLaws.{pushed_as}
use Rattle.unit_writer.proofs.ParamLaws.{param_next}
use Rattle.unit_writer.proofs.function.add_params.Goals as goal

pub loop-t-preserved : goal.loop-t-preserved
loop-t-preserved c =
    param_next _ _ _ (λ u. plain_values c.args.params.now ++ params_behind u c.args.params.now (map plain_type c.args.types.now)) c.loop-t.params c.push.new.self c.args.types.now c.loop-t.t-index c.in_ok-number.number c.in-Ok.place c.t-item.result
    c.loop-t-test.true c.t-item.is (pushed_as c.loop-t.params c.push.new.self c.in_ok-number.number c.in_ok-copy_type.field-0 c.t-item.result c.in_ok-copy_type.ensures c.in_ok-push.ensures.ok)
    (omega (arith, c.in-Ok.ensures, c.len.ensures)) c.in_ok-number.ensures.extends c.in_ok-number.ensures.number c.loop-t.invariant
