use Rattle.std.proofs.Common.{rules}
use Rattle.text_refusals.proofs.ClassLemmas.{some_before}
use Rattle.text_refusals.proofs.classes.class_before.Goals as goal

pub returns : goal.returns
returns c = λ text d names classes within own.
    some_before text c.args.words.now c.args.names.now c.args.classes.now c.args.index c.in_ok-first.first d c.in_ok-word_at.field-0 c.at.result names classes within own
    (search rules) (search rules) (search rules) (search rules) c.at.ensures
