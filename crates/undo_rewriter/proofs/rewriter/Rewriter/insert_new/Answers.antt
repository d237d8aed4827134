use Rattle.std.proofs.Common.{◌≡◌, ◌+◌, ◌++◌, List, length, arith, sym, ap, subst, ◌∙◌}
use Rattle.std.proofs.lemmas.Grind.{common_steps}
use Rattle.key_model.specs.declared.handle.Handle.{Handle}
use Rattle.flat_model.specs.declared.nodes.OpNode.{OpNode}
use Rattle.flat_model.specs.Flat.{Flat, IsOpWithin}
use Rattle.undo_rewriter.specs.NewOps.{numbers_from}
use Rattle.undo_rewriter.proofs.NewOpLaws.{node_is, node_within}
use Rattle.undo_rewriter.proofs.rewriter.Rewriter.insert_new.Goals as goal

pub insert_op-requires-clause-node : goal.insert_op-requires-clause-node
insert_op-requires-clause-node c = let f = c.args.self.now.now in let new = c.args.new in
    let node : OpNode = record { name = new.name; results = c.in_ok-results.results; operands = new.operands; props = new.props; attrs = new.attrs; regions = c.new-2.result; successors = new.successors } in
    let count : c.in-Ok.count ≡ length new.results.items = grind (arith, common_steps) in
    let is = node_is c.in_ok-values.values new c.in_ok-results.results c.new-2.result (c.in_ok-results.ensures ∙ ap (numbers_from c.in_ok-values.values) count) c.new-2.ensures in
    subst (λ (ts : List Handle). let g : Flat = record f { types = f.types ++ ts } in IsOpWithin (length f.types + length ts) (length f.blocks) g node) (sym c.as_slice.ensures.value)
    (node_within f new node c.in_ok-values.values (grind (arith, common_steps)) is c.requires.operands c.requires.successors)
