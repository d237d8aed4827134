use Rattle.read_uses.proofs.Signatures.{function_behind}
use Rattle.read_uses.proofs.laws.law_function_behind.Goals as goal

pub returns : goal.returns
returns c = function_behind
