use Rattle.std.proofs.Common.{◌≡◌, arith, ◌∙◌}
use Rattle.std.proofs.lemmas.Grind.{common_steps}
use Rattle.flat_model.specs.Flat.{op_at}
use Rattle.undo_rewriter.proofs.CutLaws.{arena_is, node_was_within, node_put_back}
use Rattle.undo_rewriter.proofs.node_steps.exchanged.Goals as goal

pub exchange_node-new-requires-clause-node : goal.exchange_node-new-requires-clause-node
exchange_node-new-requires-clause-node c = node_was_within c.args.func.now.flat c.exchange_node-was.new.self.flat c.args.op c.args.node _ c.exchange_node-was.ensures.closed c.requires.op c.exchange_node-was.ensures.flat
    (let h : c.in-Err.was ≡ op_at c.args.func.now.flat c.args.op = grind (arith, common_steps) in h)

pub returns-in-Err-clause-func_back : goal.returns-in-Err-clause-func_back
returns-in-Err-clause-func_back c = arena_is c.exchange_node-new.new.self c.args.func.now
    (node_put_back c.args.func.now.flat c.exchange_node-was.new.self.flat c.exchange_node-new.new.self.flat c.args.op c.args.node _ c.exchange_node-was.ensures.flat c.exchange_node-new.ensures.flat
    (let h : c.in-Err.was ≡ op_at c.args.func.now.flat c.args.op = grind (arith, common_steps) in h))
    (c.exchange_node-new.ensures.rooms ∙ c.exchange_node-was.ensures.rooms)
