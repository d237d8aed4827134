use Rattle.value_code.specs.Models.{value_of}
use Rattle.table_code.specs.Agreement.{Agrees}
use Rattle.step_code.proofs.PairLaws.{pair_perhaps}
use Rattle.step_code.proofs.pairs.pair_gives.Goals as goal

pub returns-in-Some : goal.returns-in-Some
returns-in-Some c =
    pair_perhaps (Agrees c.args.table.now) c.given_by.result c.args.op.now c.in-Computes.p (value_of c.in-Some.t.first.now) (value_of c.in-Some.t.second.now) c.as_slice.result.now
    c.in-Computes.is c.as_slice.ensures c.in-Some.ensures c.given_by.ensures
