use Rattle.begun_types.proofs.Wholes.{types_begin}
use Rattle.begun_types.proofs.laws.law_types_begin.Goals as goal

pub returns : goal.returns
returns c = types_begin
