use Rattle.std.proofs.Common.{sym, subst, length, set}
use Rattle.flat_model.specs.declared.nodes.OpNode.{OpNode}
use Rattle.flat_model.specs.Flat.{IsClosed, IsOpWithin}
use Rattle.edit_model.proofs.ClosedLaws.{closed_node}
use Rattle.ir_arena.specs.Arena.{Arena, flat_of}
use Rattle.ir_arena.proofs.func.Func.exchange_node.Goals as goal

pub invariant_of-self : goal.invariant_of-self
invariant_of-self c = subst (λ (n : OpNode). IsClosed (flat_of (set c.self.inside.ops.items c.args.op n) c.self.inside.blocks.items c.self.inside.regions.items c.self.inside.types.items c.self.inside.root)) (sym c.replace.ensures.after)
    (closed_node (flat_of c.self.inside.ops.items c.self.inside.blocks.items c.self.inside.regions.items c.self.inside.types.items c.self.inside.root) c.args.op c.args.node c.self.invariant (subst (λ (a : Arena). IsOpWithin (length a.flat.types) (length a.flat.blocks) a.flat c.args.node) (sym c.self.view_is) c.requires.node))
