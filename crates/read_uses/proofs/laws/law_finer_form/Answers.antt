use Rattle.read_uses.proofs.Coarse.{finer_form}
use Rattle.read_uses.proofs.laws.law_finer_form.Goals as goal

pub returns : goal.returns
returns c = finer_form
