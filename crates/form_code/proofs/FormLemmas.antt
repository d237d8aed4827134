-- What the parts of forms stand for.
use Rattle.std.proofs.lemmas.Grind.{common_steps}
use Rattle.value_code.proofs.Shapes.{shapes}

pub ruleset forms = (common_steps, shapes)
