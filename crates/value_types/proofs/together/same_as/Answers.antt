use Rattle.value_types.proofs.SameTypes.{other_types_in}
use Rattle.value_types.proofs.together.same_as.Goals as goal

pub returns-then-types-others : goal.returns-then-types-others
returns-then-types-others c = other_types_in c.args.types.now c.args.others.now c.if-types-others.true
