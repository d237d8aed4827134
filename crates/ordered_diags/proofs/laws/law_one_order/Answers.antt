use Rattle.ordered_diags.proofs.Rising.{one_order}
use Rattle.ordered_diags.proofs.laws.law_one_order.Goals as goal

pub returns : goal.returns
returns c = one_order
