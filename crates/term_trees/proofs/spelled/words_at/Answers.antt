use Rattle.term_table.specs.Terms.{term_at}
use Rattle.event_trees.specs.Wording.{wording_of}
use Rattle.term_trees.proofs.ListLaws.{no_more, words_none}
use Rattle.term_trees.proofs.spelled.words_at.Goals as goal

pub returns : goal.returns
returns c =
    no_more _ _ _ c.each.invariant.is
    (words_none (wording_of c.args.source.now.text.now c.args.source.now.words.now) (term_at c.args.terms.now.nodes.keys c.each.rest) c.in_default.ensures.none)
