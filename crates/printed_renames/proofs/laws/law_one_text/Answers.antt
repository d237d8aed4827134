use Rattle.printed_renames.specs.Texts.{Takes}
use Rattle.printed_renames.proofs.Texts.{func_same}
use Rattle.printed_renames.proofs.laws.law_one_text.Goals as goal

pub returns : goal.returns
returns c = λ value label f g one labels r. func_same f g one labels r
