use Rattle.conversion_model.specs.Uses.{followed}
use Rattle.stand_ins.specs.Tables.{stands_for}
use Rattle.copy_uses.proofs.FollowLaws.{all_followed, pair_followed}
use Rattle.copy_uses.proofs.pairs.table_of.Goals as goal

pub each-preserved : goal.each-preserved
each-preserved c = (
  c.in_ok-replace.ensures.forest,
  pair_followed c.args.pairs.now c.each.pair-index _ (stands_for c.each.table) (stands_for c.replace.new.self) (followed c.args.pairs.now (λ n. n)) c.each-test.true c.in_ok-replace.ensures.replaced c.each.invariant.1,
)

pub returns-clause-followed : goal.returns-clause-followed
returns-clause-followed c = all_followed c.args.pairs.now c.each.pair-index (stands_for c.each.table) (followed c.args.pairs.now (λ n. n)) c.each-test.false c.each.invariant.1
