use Rattle.read_terms.proofs.Texts.{read_is_fit}
use Rattle.read_terms.proofs.laws.law_read_is_fit.Goals as goal

pub returns : goal.returns
returns c = read_is_fit
