use Rattle.std.proofs.Common.{◌<◌, ◌≤◌, length, arith, sym, ap, subst, ◌∙◌}
use Rattle.std.proofs.lemmas.Grind.{common_steps}
use Rattle.edit_effects.specs.Uses.{with_uses}
use Rattle.edit_effects.proofs.UseLaws.{ops_so_far, use_turn, uses_done}
use Rattle.undo_rewriter.proofs.JournalLaws.{kept_on}
use Rattle.undo_rewriter.proofs.rewriter.Rewriter.replace_steps.Goals as goal

pub replace_in-requires-clause-op : goal.replace_in-requires-clause-op
replace_in-requires-clause-op c = let l : c.loop-op.op < length c.begin.new.self.now.ops = grind (arith, common_steps) in
    subst (λ n. c.loop-op.op < n) (sym (ops_so_far c.args.from c.args.to c.begin.new.self.now c.loop-op.self.now c.loop-op.op c.loop-op.invariant.nodes).0) l

pub loop-op-preserved : goal.loop-op-preserved
loop-op-preserved c = let l : c.loop-op.op < length c.begin.new.self.now.ops = grind (arith, common_steps) in record {
  nodes = use_turn c.args.from c.args.to c.begin.new.self.now c.loop-op.self.now c.replace_in.new.self.now c.loop-op.op l c.loop-op.invariant.nodes c.in_ok-replace_in.ensures.nodes;
  kept = kept_on _ _ _ c.loop-op.invariant.kept c.replace_in.ensures.kept;
}

pub returns-clause-nodes : goal.returns-clause-nodes
returns-clause-nodes c = let l : length c.begin.new.self.now.ops ≤ c.loop-op.op = grind (arith, common_steps) in
    c.loop-op.invariant.nodes ∙ uses_done c.args.from c.args.to c.begin.new.self.now c.loop-op.op l ∙ ap (with_uses c.args.from c.args.to) c.in_ok-begin.ensures.ok
