use Rattle.line_grammar.proofs.Texts.{one_text}
use Rattle.text_events.proofs.LanguageLemmas.{generic_language}
use Rattle.text_events.proofs.law_one_reading.Goals as goal

pub returns : goal.returns
returns c = λ words ps qs r s. one_text generic_language words ps qs r s
