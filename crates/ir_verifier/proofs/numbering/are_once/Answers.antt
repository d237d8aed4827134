use Rattle.std.proofs.Common.{◌-◌, sym, ◌∙◌, arith}
use Rattle.ir_verifier.proofs.Numbers.{later_twice}
use Rattle.ir_verifier.proofs.numbering.are_once.Goals as goal

pub returns-then-contains : goal.returns-then-contains
returns-then-contains c =
    later_twice c.args.found.now (c.loop-index.index - 1) c.loop-index.index (omega (arith, c.loop-index-test.true)) (omega (arith, c.loop-index.invariant.within, c.loop-index-test.true))
    (sym (c.loop-index.invariant.known _) ∙ sym c.contains.ensures ∙ c.if-contains.true)
