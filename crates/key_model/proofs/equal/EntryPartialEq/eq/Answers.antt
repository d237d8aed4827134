use Rattle.std.specs.Bool.{one_answer}
use Rattle.key_model.specs.Equal.{alike_entry-Decides}
use Rattle.key_model.proofs.equal.EntryPartialEq.eq.Goals as goal

pub returns : goal.returns
returns c = one_answer _ _ c.same_entry.ensures (alike_entry-Decides c.args.self.now c.args.other.now)
