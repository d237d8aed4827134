use Rattle.tree_model.specs.Known.{known, known_text}
use Rattle.tree_model.proofs.known.known_text.Goals as goal

pub returns : goal.returns
unfolding known_text known
returns c = c.text_in.ensures
