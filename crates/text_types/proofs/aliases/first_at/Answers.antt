use Rattle.std.proofs.Common.{◌∙◌, ap}
use Rattle.term_table.specs.Terms.{term_at}
use Rattle.text_types.specs.Stack.{alias_terms, first_number}
use Rattle.text_types.proofs.AliasLaws.{first_is}
use Rattle.text_types.proofs.aliases.first_at.Goals as goal

pub returns-clause-begins : goal.returns-clause-begins
returns-clause-begins g c =
    ap (term_at c.begun_at.new.terms.nodes.keys) (c.first.ensures ∙ ap first_number c.deref.ensures.value)
    ∙ first_is (g.S.Spelled.spelling c.args.words.now) (alias_terms c.args.terms.now.nodes.keys c.args.aliases.now) c.begun_at.new.terms.nodes.keys c.in_ok-numbers.numbers.items
    c.args.events.now c.in_ok-numbers.ensures.begun
