use Rattle.std.proofs.Common.{refl}
use Rattle.std.specs.Fmt.{digits}
use Rattle.text_model.proofs.printed.law_lines_of_a_region.Goals as goal

pub returns : goal.returns
unfolding digits
returns c = (refl, refl)
