use Rattle.printed_modules.proofs.ModuleLemmas.{text_of_modules}
use Rattle.printed_modules.proofs.law_text_of_modules.Goals as goal

pub returns : goal.returns
returns c = text_of_modules
