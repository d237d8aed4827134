-- What the printing of types steps by.
use Rattle.std.proofs.lemmas.Grind.{common_steps}
use Rattle.tree_model.specs.declared.type_tree.TypeTree.{the_lemmas}
use Rattle.tree_text.proofs.GrewLaws.{grew_refl, grew_on}

pub ruleset type_laws = (common_steps, the_lemmas, grew_refl, grew_on)
