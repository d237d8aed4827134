use Rattle.text_grammar.proofs.WordLemmas.{first_given}
use Rattle.text_grammar.proofs.cuts.first_token.Goals as goal

pub returns : goal.returns
returns c = first_given c.args.text.now _ _ c.new-lexer.ensures c.next.ensures.gives
