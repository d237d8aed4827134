use Rattle.number_model.proofs.Wrapping.{differences_wrap, products_wrap, sums_wrap}
use Rattle.number_model.proofs.laws.law_wrapping.Goals as goal

pub returns-clause-sums : goal.returns-clause-sums
returns-clause-sums c = sums_wrap

pub returns-clause-differences : goal.returns-clause-differences
returns-clause-differences c = differences_wrap

pub returns-clause-products : goal.returns-clause-products
returns-clause-products c = products_wrap
