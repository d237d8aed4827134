use Rattle.number_model.proofs.Widths.{resizes_to_width, stays_in_width}
use Rattle.number_model.proofs.laws.law_widths.Goals as goal

pub returns-clause-binary : goal.returns-clause-binary
returns-clause-binary c = stays_in_width

pub returns-clause-resized : goal.returns-clause-resized
returns-clause-resized c = resizes_to_width
