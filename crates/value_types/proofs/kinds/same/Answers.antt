use Rattle.value_types.proofs.SameTypes.{decides}
use Rattle.value_types.proofs.kinds.same.Goals as goal

pub returns : goal.returns
returns c = decides c.args.a.now c.args.b.now c.same_type.result c.same_type.ensures
