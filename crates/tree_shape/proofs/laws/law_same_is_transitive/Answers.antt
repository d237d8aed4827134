use Rattle.std.proofs.Common.{◌∙◌}
use Rattle.tree_shape.proofs.RenamingLaws.{one_to_one_on}
use Rattle.tree_shape.proofs.laws.law_same_is_transitive.Goals as goal

pub returns : goal.returns
returns c = λ x y z s t. record { rest = s.rest ∙ t.rest; values = one_to_one_on _ _ _ s.values t.values; labels = one_to_one_on _ _ _ s.labels t.labels }
