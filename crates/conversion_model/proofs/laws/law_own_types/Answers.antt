use Rattle.conversion_model.proofs.TypeLaws.{own_types, converted_is_own}
use Rattle.conversion_model.proofs.laws.law_own_types.Goals as goal

pub returns-clause-own : goal.returns-clause-own
returns-clause-own c = own_types

pub returns-clause-converted : goal.returns-clause-converted
returns-clause-converted c = converted_is_own
