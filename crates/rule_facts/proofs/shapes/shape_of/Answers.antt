use Rattle.rule_facts.proofs.ShapeLemmas.{no_shape}
use Rattle.rule_facts.proofs.shapes.shape_of.Goals as goal

pub returns-in-None : goal.returns-in-None
returns-in-None c = no_shape c.args.name.now c.in-None.ensures.found
