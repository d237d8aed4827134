use Rattle.std.proofs.Common.{ℕ, List, ◌++◌, ◌+◌, take, drop, ap, ◌∙◌}
use Rattle.undo_rewriter.proofs.CutLaws.{blocks_put}
use Rattle.undo_rewriter.proofs.listing.unlist_blocks.Goals as goal

pub returns-clause-flat : goal.returns-clause-flat
returns-clause-flat c = blocks_put c.args.func.now.flat c.exchange_blocks-list.new.self.flat c.exchange_blocks-empty.new.self.flat c.args.region _ _ _ c.exchange_blocks-list.ensures.flat c.exchange_blocks-empty.ensures.flat
    (c.take_out.ensures ∙ ap (λ (xs : List ℕ). take c.args.at xs ++ drop (c.args.at + c.args.count) xs) c.exchange_blocks-list.ensures.was)
