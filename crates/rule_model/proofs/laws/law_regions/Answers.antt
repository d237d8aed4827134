use Rattle.rule_model.proofs.ScopeLaws.{defined_by_regions, reached_in_function}
use Rattle.rule_model.proofs.laws.law_regions.Goals as goal

pub returns-clause-same : goal.returns-clause-same
returns-clause-same c = defined_by_regions

pub returns-clause-free : goal.returns-clause-free
returns-clause-free c = reached_in_function
