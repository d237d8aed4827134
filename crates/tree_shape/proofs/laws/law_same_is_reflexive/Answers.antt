use Rattle.std.proofs.Common.{refl}
use Rattle.tree_shape.proofs.RenamingLaws.{one_to_one_itself}
use Rattle.tree_shape.proofs.laws.law_same_is_reflexive.Goals as goal

pub returns : goal.returns
returns c = λ a. record { rest = refl; values = one_to_one_itself _; labels = one_to_one_itself _ }
