use Rattle.std.proofs.Common.{arith, ◌^◌}
use Rattle.text_grammar.specs.TokenKinds.{are_long}
use Rattle.text_grammar.proofs.LongLemmas.{over, under}
use Rattle.text_grammar.proofs.long_numbers.are_long.Goals as goal

pub returns-in_default : goal.returns-in_default
unfolding are_long
returns-in_default c =
    over (2 ^ 128) c.args.base c.loop-digit.value c.args.digits.now c.loop-digit.digit-index c.requires c.loop-digit-test.true (λ small. c.in_default.ensures (omega (arith, small)))
    c.loop-digit.invariant.decides

pub returns-in_default-checked_add : goal.returns-in_default-checked_add
unfolding are_long
returns-in_default-checked_add c =
    over (2 ^ 128) c.args.base c.loop-digit.value c.args.digits.now c.loop-digit.digit-index c.requires c.loop-digit-test.true
    (λ small. c.in_default-checked_add.ensures (rw (c.in-Some.ensures.1, c.digit_value.ensures) small)) c.loop-digit.invariant.decides

pub returns : goal.returns
unfolding are_long
returns c =
    under (2 ^ 128) c.args.base c.loop-digit.value c.args.digits.now c.loop-digit.digit-index c.loop-digit-test.false c.loop-digit.invariant.bound c.loop-digit.invariant.decides
