use Rattle.text_grammar.proofs.ReadLemmas.{form_found, form_refused, form_only}
use Rattle.text_grammar.proofs.reading.read_form.Goals as goal

pub returns-clause-found : goal.returns-clause-found
returns-clause-found c = λ is. form_found c.in_ok-places.ensures is

pub returns-clause-refused : goal.returns-clause-refused
returns-clause-refused c = λ is. form_refused c.in_ok-places.ensures is

pub returns-clause-only : goal.returns-clause-only
returns-clause-only c = λ ps reads. form_only c.in_ok-places.ensures ps reads
