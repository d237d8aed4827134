-- What the whole grammar's laws say of its reading.
use Rattle.grammar_model.proofs.Whole.{gives_found, gives_expected, gives_only}
use Rattle.pipeline_text.specs.declared.pass.Pipeline.{Pipeline}
use Rattle.pipeline_text.proofs.Productions.{pipeline_laws}
use Rattle.pipeline_text.proofs.reading.read_tokens.Goals as goal

pub returns-clause-found : goal.returns-clause-found
returns-clause-found c = gives_found pipeline_laws c.args.tokens.now (λ (p : Pipeline). p.stages) c.read_all.result c.read_all.ensures

pub returns-clause-refused : goal.returns-clause-refused
returns-clause-refused c = gives_expected pipeline_laws c.args.tokens.now (λ (p : Pipeline). p.stages) c.read_all.result c.read_all.ensures

pub returns-clause-only : goal.returns-clause-only
returns-clause-only c = gives_only pipeline_laws c.args.tokens.now (λ (p : Pipeline). p.stages) c.read_all.result c.read_all.ensures
