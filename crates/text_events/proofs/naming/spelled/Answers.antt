use Rattle.std.proofs.Common.{rules}
use Rattle.text_events.proofs.NameLemmas.{plain_word}
use Rattle.text_events.proofs.naming.spelled.Goals as goal

pub returns-then-not-has_escape-clause-spelled : goal.returns-then-not-has_escape-clause-spelled
returns-then-not-has_escape-clause-spelled c = λ rest h. plain_word c.args.text.now c.core-bytes.result.now c.args.word (search rules) (search rules)
