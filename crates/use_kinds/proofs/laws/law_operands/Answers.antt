use Rattle.use_kinds.proofs.OrderLaws.{operands_are}
use Rattle.use_kinds.proofs.laws.law_operands.Goals as goal

pub returns : goal.returns
returns c = λ words aliases s name operands behind. operands_are words aliases behind s name operands
