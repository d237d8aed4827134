use Rattle.printed_modules.proofs.ModuleLemmas.{modules_are_cut}
use Rattle.printed_modules.proofs.law_modules_are_cut.Goals as goal

pub returns : goal.returns
returns c = modules_are_cut
