use Rattle.std.proofs.Common.{rules}
use Rattle.tree_model.proofs.KnownLaws.{unknown, guess}
use Rattle.tree_model.proofs.known.known_number.Goals as goal

pub returns-else-stands_at-clause-unknown : goal.returns-else-stands_at-clause-unknown
unfolding guess
returns-else-stands_at-clause-unknown c = unknown _ c.number_in-number.result (search rules) (search rules)
