use Rattle.std.proofs.Common.{arith, ◌^◌}
use Rattle.text_grammar.proofs.LongLemmas.{over}
use Rattle.text_events.proofs.SourceLemmas.{cap_is}
use Rattle.text_events.proofs.source.capped_value.Goals as goal

pub returns-in_default : goal.returns-in_default
returns-in_default c =
    cap_is _ _ _ (over (2 ^ 128) c.args.base c.each.value c.args.digits.now c.each.digit-index c.requires c.each-test.true (λ small. c.in_default.ensures (omega (arith, small)))
    c.each.invariant.decides)

pub returns-in_default-checked_add : goal.returns-in_default-checked_add
returns-in_default-checked_add c =
    cap_is _ _ _ (over (2 ^ 128) c.args.base c.each.value c.args.digits.now c.each.digit-index c.requires c.each-test.true
    (λ small. c.in_default-checked_add.ensures (rw (c.in-Some.ensures.1, c.digit_value.ensures) small)) c.each.invariant.decides)
