use Rattle.value_types.proofs.SameTypes.{other_dims}
use Rattle.value_types.proofs.kinds.may_be_dims.Goals as goal

pub returns-then-dims-others : goal.returns-then-dims-others
returns-then-dims-others c = other_dims c.args.dims.now c.args.others.now c.if-dims-others.true
