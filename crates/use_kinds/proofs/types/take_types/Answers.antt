use Rattle.std.proofs.Common.{◌-◌, arith, ◌∙◌}
use Rattle.term_table.specs.Terms.{term_at}
use Rattle.use_kinds.specs.Written.{types_in}
use Rattle.use_kinds.proofs.RowLaws.{taken_on, drop_one}
use Rattle.use_kinds.proofs.types.take_types.Goals as goal

pub each-preserved : goal.each-preserved
each-preserved c =
    let nodes = c.args.terms.now.nodes.keys in
    let inv = c.each.invariant in
    record {
      within = omega (arith, inv.within, c.in-Some.ensures.parts);
      taken = taken_on nodes c.args.items.now.items c.each.items.items c.push.new.self.items (types_in (term_at nodes c.each.rest)) (types_in (term_at nodes c.in-Some.node.right)) _ c.in-Some.node.left
          c.each.wanted (c.each.wanted - 1) inv.taken (omega (arith, inv.within, c.in-Some.ensures.parts)) c.in_ok-push-in-Some.ensures.items (omega arith) c.in-Some.ensures.some;
      left = drop_one (types_in (term_at nodes c.each.rest)) (types_in (term_at nodes c.in-Some.node.right)) (term_at nodes c.in-Some.node.left) c.each.wanted (c.each.wanted - 1) (omega arith) c.in-Some.ensures.some ∙ inv.left;
    }
