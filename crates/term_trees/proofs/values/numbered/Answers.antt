use Rattle.std.proofs.Common.{ap}
use Rattle.term_table.specs.Terms.{term_at}
use Rattle.event_trees.specs.Levels.{numbered}
use Rattle.term_trees.proofs.ListLaws.{no_more, types_none}
use Rattle.term_trees.proofs.values.numbered.Goals as goal

pub returns : goal.returns
returns c = no_more _ _ _ c.each.invariant.is (ap (numbered c.each.value) (types_none (term_at c.args.terms.now.nodes.keys c.each.rest) c.in_default.ensures.none))
