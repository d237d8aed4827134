use Rattle.begun_types.proofs.Texts.{text_types_begin}
use Rattle.begun_types.proofs.laws.law_text_types_begin.Goals as goal

pub returns : goal.returns
returns c = text_types_begin
