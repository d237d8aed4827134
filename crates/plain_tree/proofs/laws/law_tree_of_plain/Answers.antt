use Rattle.plain_tree.proofs.OpTrip.{op_trip, module_trip}
use Rattle.plain_tree.proofs.laws.law_tree_of_plain.Goals as goal

pub returns-clause-operations : goal.returns-clause-operations
returns-clause-operations c = op_trip

pub returns-clause-modules : goal.returns-clause-modules
returns-clause-modules c = module_trip
