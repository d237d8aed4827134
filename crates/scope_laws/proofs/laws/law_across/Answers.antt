use Rattle.scope_laws.proofs.TurnLaws.{move}
use Rattle.scope_laws.proofs.laws.law_across.Goals as goal

pub returns : goal.returns
returns c = λ out name d xs before ahead l h. move out name l before ahead h
