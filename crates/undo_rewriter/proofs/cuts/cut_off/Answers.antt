use Rattle.std.proofs.Common.{◌≡◌, take, drop, arith, refl, sym, subst}
use Rattle.std.proofs.lemmas.Grind.{common_steps}
use Rattle.flat_model.specs.Flat.{block_at, IsClosed}
use Rattle.edit_model.specs.Writes.{with_ops}
use Rattle.undo_rewriter.proofs.CutLaws.{arena_is, inside_more, place_kept, room_kept, end_inside, rest_below, dropped_is, cut_is, cut_rooms}
use Rattle.undo_rewriter.proofs.cuts.cut_off.Goals as goal

pub take_back-requires-clause-block : goal.take_back-requires-clause-block
take_back-requires-clause-block c = inside_more c.args.func.now.flat c.add_block.new.self.flat c.args.block c.in_ok-end.ensures.flat c.requires.block

pub take_back-requires-clause-at : goal.take_back-requires-clause-at
take_back-requires-clause-at c = place_kept c.args.func.now.flat c.add_block.new.self.flat c.args.block c.args.at c.in_ok-end.ensures.flat c.requires.block c.requires.at

pub exchange_ops-empty-requires-clause-block : goal.exchange_ops-empty-requires-clause-block
exchange_ops-empty-requires-clause-block c = end_inside c.args.func.now.flat c.add_block.new.self.flat c.take_back.new.func.flat c.args.block c.in_ok-end.end _ c.in_ok-end.ensures.flat
    (let h : c.take_back.new.func.flat ≡ with_ops c.add_block.new.self.flat c.args.block (take c.args.at (block_at c.add_block.new.self.flat c.args.block).ops) = grind (arith, common_steps) in h) c.in_ok-end.ensures.block

pub exchange_ops-empty-requires-clause-ops : goal.exchange_ops-empty-requires-clause-ops
exchange_ops-empty-requires-clause-ops c = rest_below c.add_block.new.self.flat c.take_back.new.func.flat c.args.block c.args.at _ c.in-Ok.back.list c.take_back.ensures.closed
    (let h : c.take_back.new.func.flat ≡ with_ops c.add_block.new.self.flat c.args.block (take c.args.at (block_at c.add_block.new.self.flat c.args.block).ops) = grind (arith, common_steps) in h)
    (inside_more c.args.func.now.flat c.add_block.new.self.flat c.args.block c.in_ok-end.ensures.flat c.requires.block)
    (let h : c.in-Ok.back.list ≡ drop c.args.at (block_at c.add_block.new.self.flat c.args.block).ops = grind (arith, common_steps) in h)

pub returns-in-Ok-clause-flat : goal.returns-in-Ok-clause-flat
returns-in-Ok-clause-flat c = cut_is c.args.func.now.flat c.add_block.new.self.flat c.take_back.new.func.flat c.exchange_ops-empty.new.self.flat c.args.block c.args.at c.in_ok-end.end c.in-Ok.back.list c.in_ok-end.ensures.flat
    (let h : c.take_back.new.func.flat ≡ with_ops c.add_block.new.self.flat c.args.block (take c.args.at (block_at c.add_block.new.self.flat c.args.block).ops) = grind (arith, common_steps) in h)
    (let h : c.in-Ok.back.list ≡ drop c.args.at (block_at c.add_block.new.self.flat c.args.block).ops = grind (arith, common_steps) in h)
    c.exchange_ops-empty.ensures.flat c.in_ok-end.ensures.block c.requires.block

pub returns-in-Ok-clause-rooms : goal.returns-in-Ok-clause-rooms
returns-in-Ok-clause-rooms c = cut_rooms c.args.func.now.rooms c.add_block.new.self.rooms c.take_back.new.func.rooms c.exchange_ops-empty.new.self.rooms _ c.in_ok-end.end _ c.in_ok-end.ensures.rooms c.take_back.ensures.rooms c.exchange_ops-empty.ensures.rooms c.in_ok-end.ensures.block

pub returns-in-Ok-clause-room : goal.returns-in-Ok-clause-room
returns-in-Ok-clause-room c = room_kept c.args.func.now.flat c.add_block.new.self.flat c.args.func.now.rooms c.add_block.new.self.rooms c.args.block _ c.in_ok-end.ensures.flat c.in_ok-end.ensures.rooms refl c.requires.block c.take_back.ensures.room

pub drop_blocks-requires : goal.drop_blocks-requires
drop_blocks-requires c = subst IsClosed (sym (dropped_is c.args.func.now.flat c.add_block.new.self.flat c.take_back.new.func.flat _ c.in_ok-end.end c.in_ok-end.ensures.flat
    (let h : c.take_back.new.func.flat ≡ c.add_block.new.self.flat = grind (arith, common_steps) in h) refl c.in_ok-end.ensures.block)) c.closed.ensures

pub returns-in-Err-clause-err : goal.returns-in-Err-clause-err
returns-in-Err-clause-err c = arena_is c.drop_blocks.new.self c.args.func.now
    (dropped_is c.args.func.now.flat c.add_block.new.self.flat c.take_back.new.func.flat c.drop_blocks.new.self.flat c.in_ok-end.end c.in_ok-end.ensures.flat
    (let h : c.take_back.new.func.flat ≡ c.add_block.new.self.flat = grind (arith, common_steps) in h) c.drop_blocks.ensures.flat c.in_ok-end.ensures.block)
    (let h : c.drop_blocks.new.self.rooms ≡ c.args.func.now.rooms = grind (arith, common_steps) in h)
