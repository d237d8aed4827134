use Rattle.scope_laws.proofs.TurnLaws.{enter}
use Rattle.scope_laws.proofs.laws.law_into.Goals as goal

pub returns : goal.returns
returns c = λ name e f before inner ahead i h. enter name e f before inner ahead i h
