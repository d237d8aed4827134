use Rattle.read_names.proofs.Texts.{read_is_registered}
use Rattle.read_names.proofs.laws.law_read_is_registered.Goals as goal

pub returns : goal.returns
returns c = read_is_registered
