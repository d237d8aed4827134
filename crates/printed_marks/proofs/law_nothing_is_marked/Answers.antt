use Rattle.printed_marks.proofs.OpWords.{module_plain}
use Rattle.printed_marks.proofs.EventLemmas.{unmarked}
use Rattle.printed_marks.proofs.law_nothing_is_marked.Goals as goal

pub returns : goal.returns
returns c = λ words wording m es told. unmarked words wording told (module_plain m)
