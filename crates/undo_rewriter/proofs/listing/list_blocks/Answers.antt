use Rattle.std.proofs.Common.{◌≡◌, ℕ, List, ◌++◌, take, drop, arith, ap, ◌∙◌}
use Rattle.std.proofs.lemmas.Grind.{common_steps}
use Rattle.undo_rewriter.proofs.CutLaws.{arena_is, listed_below, blocks_put, blocks_put_back}
use Rattle.undo_rewriter.proofs.listing.list_blocks.Goals as goal

pub exchange_blocks-empty-requires-clause-blocks : goal.exchange_blocks-empty-requires-clause-blocks
exchange_blocks-empty-requires-clause-blocks c = listed_below c.args.func.now.flat c.exchange_blocks-list.new.self.flat c.args.region c.args.at _ c.exchange_blocks-list.result.items _ c.args.blocks.now c.exchange_blocks-list.ensures.closed
    c.exchange_blocks-list.ensures.flat c.requires.region c.requires.blocks c.exchange_blocks-list.ensures.was
    (let h : c.put_in.new.list.items ≡ take c.args.at c.exchange_blocks-list.result.items ++ c.args.blocks.now ++ drop c.args.at c.exchange_blocks-list.result.items = grind (arith, common_steps) in h)

pub returns-in-Ok-clause-flat : goal.returns-in-Ok-clause-flat
returns-in-Ok-clause-flat c = blocks_put c.args.func.now.flat c.exchange_blocks-list.new.self.flat c.exchange_blocks-empty.new.self.flat c.args.region _ _ _ c.exchange_blocks-list.ensures.flat c.exchange_blocks-empty.ensures.flat
    (let h : c.put_in.new.list.items ≡ take c.args.at c.exchange_blocks-list.result.items ++ c.args.blocks.now ++ drop c.args.at c.exchange_blocks-list.result.items = grind (arith, common_steps) in
    h ∙ ap (λ (xs : List ℕ). take c.args.at xs ++ c.args.blocks.now ++ drop c.args.at xs) c.exchange_blocks-list.ensures.was)

pub returns-in-Err-clause-err : goal.returns-in-Err-clause-err
returns-in-Err-clause-err c = arena_is c.exchange_blocks-empty-in-Err.new.self c.args.func.now
    (blocks_put_back c.args.func.now.flat c.exchange_blocks-list.new.self.flat c.exchange_blocks-empty-in-Err.new.self.flat c.args.region _ _ c.exchange_blocks-list.ensures.flat c.exchange_blocks-empty-in-Err.ensures.flat
    (let h : c.put_in.new.list.items ≡ c.exchange_blocks-list.result.items = grind (arith, common_steps) in h ∙ c.exchange_blocks-list.ensures.was))
    (c.exchange_blocks-empty-in-Err.ensures.rooms ∙ c.exchange_blocks-list.ensures.rooms)
