use Rattle.printed_modules.proofs.ModuleLemmas.{modules_are_read}
use Rattle.printed_modules.proofs.law_modules_are_read.Goals as goal

pub returns : goal.returns
returns c = modules_are_read
