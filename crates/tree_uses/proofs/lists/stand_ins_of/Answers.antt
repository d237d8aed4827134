use Rattle.std.proofs.Common.{arith}
use Rattle.stand_ins.specs.Tables.{stands_for}
use Rattle.tree_uses.proofs.ListLaws.{changed_all, changed_below, next_changed}
use Rattle.tree_uses.proofs.lists.stand_ins_of.Goals as goal

pub number_at-value-requires : goal.number_at-value-requires
number_at-value-requires c = changed_below (stands_for c.args.to.now) c.each.index c.len-index-end.result c.args.values c.each.list c.each.invariant c.len-index-end.ensures c.each-test.true

pub set-requires : goal.set-requires
set-requires c = changed_below (stands_for c.args.to.now) c.each.index c.len-index-end.result c.args.values c.each.list c.each.invariant c.len-index-end.ensures c.each-test.true

pub each-preserved : goal.each-preserved
each-preserved c =
    next_changed (stands_for c.args.to.now) c.each.index c.args.values c.each.list c.set.new.self 0 c.number_at-value.result c.at.result
    (omega (arith, c.each-test.true, c.len-index-end.ensures)) c.each.invariant c.number_at-value.ensures c.at.ensures c.set.ensures

pub returns : goal.returns
returns c = changed_all (stands_for c.args.to.now) c.each.index c.len-index-end.result c.args.values c.each.list c.each.invariant c.len-index-end.ensures c.each-test.false
