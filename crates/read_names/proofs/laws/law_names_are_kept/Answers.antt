use Rattle.read_names.proofs.Modules.{names_are_kept}
use Rattle.read_names.proofs.laws.law_names_are_kept.Goals as goal

pub returns : goal.returns
returns c = names_are_kept
