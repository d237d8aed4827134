use Rattle.std.proofs.Common.{◌≡◌, arith}
use Rattle.term_table.specs.Terms.{term_at}
use Rattle.event_trees.specs.Numbers.{length_of}
use Rattle.term_trees.proofs.ListLaws.{length_none}
use Rattle.term_trees.proofs.values.length_of.Goals as goal

pub returns : goal.returns
returns c =
    let none : length_of (term_at c.args.terms.now.nodes.keys c.each.rest) ≡ 0 = length_none (term_at c.args.terms.now.nodes.keys c.each.rest) c.in_default.ensures.none in
    omega arith
