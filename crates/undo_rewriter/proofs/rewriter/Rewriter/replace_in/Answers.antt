use Rattle.std.proofs.Common.{◌<◌, ◌≤◌, length, arith, sym, subst, ◌∙◌}
use Rattle.std.proofs.lemmas.Grind.{common_steps}
use Rattle.flat_model.specs.Flat.{op_at}
use Rattle.edit_effects.proofs.UseLaws.{inside_so_far, operand_turn, operands_done}
use Rattle.undo_rewriter.proofs.JournalLaws.{kept_on}
use Rattle.undo_rewriter.proofs.rewriter.Rewriter.replace_in.Goals as goal

pub replace_at-requires-clause-at : goal.replace_at-requires-clause-at
replace_at-requires-clause-at c = let l : c.loop-at.at < length (op_at c.args.self.now.now c.args.op).operands = grind (arith, common_steps) in
    subst (λ n. c.loop-at.at < n) (sym (inside_so_far c.args.from c.args.to c.args.self.now.now c.loop-at.self.now c.args.op c.loop-at.at c.requires.op c.loop-at.invariant.nodes).2) l

pub loop-at-preserved : goal.loop-at-preserved
loop-at-preserved c = let l : c.loop-at.at < length (op_at c.args.self.now.now c.args.op).operands = grind (arith, common_steps) in record {
  nodes = operand_turn c.args.from c.args.to c.args.self.now.now c.loop-at.self.now c.replace_at.new.self.now c.args.op c.loop-at.at c.requires.op l c.loop-at.invariant.nodes c.in_ok-replace_at.ensures.nodes;
  kept = kept_on _ _ _ c.loop-at.invariant.kept c.replace_at.ensures.kept;
}

pub returns-clause-nodes : goal.returns-clause-nodes
returns-clause-nodes c = let l : length (op_at c.args.self.now.now c.args.op).operands ≤ c.loop-at.at = grind (arith, common_steps) in
    c.loop-at.invariant.nodes ∙ operands_done c.args.from c.args.to c.args.self.now.now c.args.op c.loop-at.at l
