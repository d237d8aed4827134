use Rattle.term_table.specs.Terms.{term_at}
use Rattle.event_trees.specs.Wording.{wording_of}
use Rattle.term_trees.proofs.ListLaws.{no_more, items_none, entries_none}
use Rattle.term_trees.proofs.attrs.+attrs.Goals as goal

pub items_at-returns : goal.items_at-returns
items_at-returns t c =
    no_more _ _ _ c.each.invariant.is
    (items_none (wording_of c.args.source.now.text.now c.args.source.now.words.now) (term_at c.args.terms.now.nodes.keys c.each.rest) c.in_default.ensures.none)

pub entries_at-returns : goal.entries_at-returns
entries_at-returns t c =
    no_more _ _ _ c.each.invariant.is
    (entries_none (wording_of c.args.source.now.text.now c.args.source.now.words.now) (term_at c.args.terms.now.nodes.keys c.each.rest) c.in_default.ensures.none)
