use Rattle.kept_rules.proofs.BranchPass.{cf_verified}
use Rattle.kept_rules.proofs.Reconciles.{casts_verified}
use Rattle.kept_rules.proofs.StraightLaws.{arith_verified, expand_verified}
use Rattle.kept_rules.proofs.laws.law_verified.Goals as goal

pub returns-clause-expand : goal.returns-clause-expand
returns-clause-expand c = expand_verified

pub returns-clause-arith : goal.returns-clause-arith
returns-clause-arith c = arith_verified

pub returns-clause-cf : goal.returns-clause-cf
returns-clause-cf c = cf_verified

pub returns-clause-casts : goal.returns-clause-casts
returns-clause-casts c = casts_verified
