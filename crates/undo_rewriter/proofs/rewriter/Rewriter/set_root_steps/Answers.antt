use Rattle.std.proofs.Common.{length, subst}
use Rattle.flat_model.specs.Flat.{IsOpWithin}
use Rattle.undo_rewriter.specs.Journal.{Edited}
use Rattle.undo_rewriter.proofs.WriterLaws.{renamed_within}
use Rattle.undo_rewriter.proofs.rewriter.Rewriter.set_root_steps.Goals as goal

pub put_node-requires-clause-node : goal.put_node-requires-clause-node
put_node-requires-clause-node c = subst (λ (a : Edited). IsOpWithin (length a.now.types) (length a.now.blocks) a.now c.in_ok-node.node) c.self.view_is
    (renamed_within c.self.inside.func.flat c.root-root.result c.in_ok-node.node c.args.name c.args.props c.in_ok-node.ensures c.closed.ensures c.root-root.ensures.known)
