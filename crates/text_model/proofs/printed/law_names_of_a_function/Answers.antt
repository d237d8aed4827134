use Rattle.std.proofs.Common.{refl}
use Rattle.std.specs.Fmt.{digits}
use Rattle.text_model.proofs.printed.law_names_of_a_function.Goals as goal

pub returns-clause-uses : goal.returns-clause-uses
unfolding digits
returns-clause-uses c t = (refl, refl)
