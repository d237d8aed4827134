use Rattle.std.specs.Bool.{one_answer}
use Rattle.key_model.specs.Equal.{alike_key-Decides}
use Rattle.key_model.proofs.equal.KeyPartialEq.eq.Goals as goal

pub returns : goal.returns
returns c = one_answer _ _ c.same_key.ensures (alike_key-Decides c.args.self.now c.args.other.now)
