use Rattle.pattern_model.proofs.PassOnce.{passes_define_once}
use Rattle.pattern_model.proofs.laws.law_defined_once.Goals as goal

pub returns : goal.returns
returns c = passes_define_once
