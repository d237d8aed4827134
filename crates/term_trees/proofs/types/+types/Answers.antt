use Rattle.term_table.specs.Terms.{term_at}
use Rattle.term_trees.proofs.ListLaws.{no_more, types_none}
use Rattle.term_trees.proofs.types.+types.Goals as goal

pub types_at-returns : goal.types_at-returns
types_at-returns t c = no_more _ _ _ c.each.invariant.is (types_none (term_at c.args.terms.now.nodes.keys c.each.rest) c.in_default.ensures.none)
