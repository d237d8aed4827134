use Rattle.std.proofs.Common.{List, ◌++◌, sym, ap, subst, ◌∙◌, ℕ}
use Rattle.flat_model.specs.Flat.{block_at, IsClosed}
use Rattle.undo_rewriter.proofs.CutLaws.{other_list, both_below, joined_is, joined_rooms}
use Rattle.undo_rewriter.proofs.cuts.join_again.Goals as goal

pub exchange_ops-empty-requires-clause-ops : goal.exchange_ops-empty-requires-clause-ops
exchange_ops-empty-requires-clause-ops c = both_below c.args.func.now.flat c.exchange_ops-back.new.self.flat c.exchange_ops-front.new.self.flat c.args.block c.args.end _ _ c.exchange_ops-front.result.list c.exchange_ops-back.result.list _
    c.exchange_ops-back.ensures.closed c.exchange_ops-back.ensures.flat c.exchange_ops-front.ensures.flat c.exchange_ops-front.ensures.was c.exchange_ops-back.ensures.was c.join_back.ensures.list c.requires.block c.requires.end

pub drop_blocks-requires : goal.drop_blocks-requires
drop_blocks-requires c = let front = other_list c.args.func.now.flat c.exchange_ops-back.new.self.flat c.args.block c.args.end _ c.exchange_ops-front.result.list c.exchange_ops-back.ensures.flat c.exchange_ops-front.ensures.was c.requires.block in
    subst IsClosed (sym (joined_is c.args.func.now.flat c.exchange_ops-back.new.self.flat c.exchange_ops-front.new.self.flat c.exchange_ops-empty.new.self.flat c.args.block c.args.end _ _ _
    c.exchange_ops-back.ensures.flat c.exchange_ops-front.ensures.flat c.exchange_ops-empty.ensures.flat
    (c.join_back.ensures.list ∙ ap (λ (xs : List ℕ). xs ++ c.exchange_ops-back.result.list) front ∙ ap (λ (xs : List ℕ). (block_at c.args.func.now.flat c.args.block).ops ++ xs) c.exchange_ops-back.ensures.was) c.requires.block c.requires.end)) c.requires.closed

pub returns-clause-flat : goal.returns-clause-flat
returns-clause-flat c = let front = other_list c.args.func.now.flat c.exchange_ops-back.new.self.flat c.args.block c.args.end _ c.exchange_ops-front.result.list c.exchange_ops-back.ensures.flat c.exchange_ops-front.ensures.was c.requires.block in
    c.drop_blocks.ensures.flat ∙ joined_is c.args.func.now.flat c.exchange_ops-back.new.self.flat c.exchange_ops-front.new.self.flat c.exchange_ops-empty.new.self.flat c.args.block c.args.end _ _ _
    c.exchange_ops-back.ensures.flat c.exchange_ops-front.ensures.flat c.exchange_ops-empty.ensures.flat
    (c.join_back.ensures.list ∙ ap (λ (xs : List ℕ). xs ++ c.exchange_ops-back.result.list) front ∙ ap (λ (xs : List ℕ). (block_at c.args.func.now.flat c.args.block).ops ++ xs) c.exchange_ops-back.ensures.was) c.requires.block c.requires.end

pub returns-clause-rooms : goal.returns-clause-rooms
returns-clause-rooms c = joined_rooms c.args.func.now.rooms c.exchange_ops-back.new.self.rooms c.exchange_ops-front.new.self.rooms c.exchange_ops-empty.new.self.rooms c.drop_blocks.new.self.rooms c.args.block c.args.end _ _ _
    c.exchange_ops-back.ensures.rooms c.exchange_ops-front.ensures.rooms c.exchange_ops-empty.ensures.rooms (c.join_back.ensures.room ∙ c.exchange_ops-front.ensures.room) c.drop_blocks.ensures.rooms
