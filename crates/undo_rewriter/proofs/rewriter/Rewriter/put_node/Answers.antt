use Rattle.std.proofs.Common.{arith, [], refl}
use Rattle.std.proofs.lemmas.Grind.{common_steps}
use Rattle.flat_model.specs.Flat.{op_at}
use Rattle.undo_rewriter.specs.declared.step.Step.TheVariants.{NodeSet}
use Rattle.undo_rewriter.proofs.WriterLaws.{roomier_same, node_done, done_sound, done_kept}
use Rattle.undo_rewriter.proofs.rewriter.Rewriter.put_node.Goals as goal

pub invariant_of-self-2 : goal.invariant_of-self-2
invariant_of-self-2 c = done_sound c.self.inside.func.rooms c.exchanged.new.func.rooms c.self.inside.journal.items c.exchanged.new.journal.items (NodeSet c.args.op (op_at c.self.inside.func.flat c.args.op)) c.self.inside.func.flat c.exchanged.new.func.flat (node_done c.exchanged.new.func.rooms c.self.inside.func.flat c.exchanged.new.func.flat c.args.op c.args.node (op_at c.self.inside.func.flat c.args.op) (grind (arith, common_steps)) refl (grind (arith, common_steps))) (grind (arith, common_steps)) c.self.invariant (roomier_same _ _ c.exchanged.ensures.rooms) c.exchanged.ensures.closed

pub returns-clause-kept : goal.returns-clause-kept
returns-clause-kept c = done_kept c.args.self.now _ [] (NodeSet c.args.op (op_at c.args.self.now.now c.args.op)) (node_done [] c.args.self.now.now c.exchanged.new.func.flat c.args.op c.args.node (op_at c.args.self.now.now c.args.op) (grind (arith, common_steps)) refl (grind (arith, common_steps))) (grind (arith, common_steps))
