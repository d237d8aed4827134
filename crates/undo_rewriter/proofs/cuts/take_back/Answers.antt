use Rattle.std.proofs.Common.{◌≡◌, take, arith, ap, ◌∙◌}
use Rattle.std.proofs.lemmas.Grind.{common_steps}
use Rattle.undo_rewriter.proofs.CutLaws.{taken_below, same_below, list_put, list_back, rooms_put}
use Rattle.undo_rewriter.proofs.cuts.take_back.Goals as goal

pub exchange_ops-empty-requires-clause-ops : goal.exchange_ops-empty-requires-clause-ops
exchange_ops-empty-requires-clause-ops c = taken_below c.args.func.now.flat c.exchange_ops-list.new.self.flat c.args.block c.args.at _ c.exchange_ops-list.result.list _ c.exchange_ops-list.ensures.closed c.exchange_ops-list.ensures.flat c.requires.block
    (let h : c.split_off.new.self.list ≡ take c.args.at c.exchange_ops-list.result.list = grind (arith, common_steps) in h) c.exchange_ops-list.ensures.was

pub exchange_ops-empty-requires-in-Err-clause-ops : goal.exchange_ops-empty-requires-in-Err-clause-ops
exchange_ops-empty-requires-in-Err-clause-ops c = same_below c.args.func.now.flat c.exchange_ops-list.new.self.flat c.args.block _ c.exchange_ops-list.result.list _ c.exchange_ops-list.ensures.closed c.exchange_ops-list.ensures.flat c.requires.block
    (let h : c.split_off.new.self.list ≡ c.exchange_ops-list.result.list = grind (arith, common_steps) in h) c.exchange_ops-list.ensures.was

pub returns-in-Ok-clause-flat : goal.returns-in-Ok-clause-flat
returns-in-Ok-clause-flat c = list_put c.args.func.now.flat c.exchange_ops-list.new.self.flat c.exchange_ops-empty.new.self.flat c.args.block _ _ _ c.exchange_ops-list.ensures.flat c.exchange_ops-empty.ensures.flat
    (let h : c.split_off.new.self.list ≡ take c.args.at c.exchange_ops-list.result.list = grind (arith, common_steps) in h ∙ ap (take c.args.at) c.exchange_ops-list.ensures.was) c.requires.block

pub returns-in-Ok-clause-rooms : goal.returns-in-Ok-clause-rooms
returns-in-Ok-clause-rooms c = rooms_put c.args.func.now.rooms c.exchange_ops-list.new.self.rooms c.exchange_ops-empty.new.self.rooms c.args.block _ _ c.exchange_ops-list.ensures.rooms c.exchange_ops-empty.ensures.rooms (c.split_off.ensures.room ∙ c.exchange_ops-list.ensures.room)

pub returns-in-Err-clause-rooms : goal.returns-in-Err-clause-rooms
returns-in-Err-clause-rooms c = rooms_put c.args.func.now.rooms c.exchange_ops-list.new.self.rooms c.exchange_ops-empty-in-Err.new.self.rooms c.args.block _ _ c.exchange_ops-list.ensures.rooms c.exchange_ops-empty-in-Err.ensures.rooms (c.split_off.ensures.room ∙ c.exchange_ops-list.ensures.room)

pub returns-in-Err-clause-err : goal.returns-in-Err-clause-err
returns-in-Err-clause-err c = list_back c.args.func.now.flat c.exchange_ops-list.new.self.flat c.exchange_ops-empty-in-Err.new.self.flat c.args.block _ _ c.exchange_ops-list.ensures.flat c.exchange_ops-empty-in-Err.ensures.flat
    (let h : c.split_off.new.self.list ≡ c.exchange_ops-list.result.list = grind (arith, common_steps) in h ∙ c.exchange_ops-list.ensures.was) c.requires.block
