use Rattle.rule_facts.specs.Views.{all_declared}
use Rattle.ir_verifier.proofs.Front.{numbered_here, one_breaks, one_sound}
use Rattle.ir_verifier.proofs.module.first_in.Goals as goal

pub first_broken-requires-clause-numbered : goal.first_broken-requires-clause-numbered
first_broken-requires-clause-numbered c = numbered_here c.args.funcs.now c.loop-place.place c.index-funcs-place.result c.loop-place-test.true c.index-funcs-place.is c.requires.numbered

pub returns-in-Some : goal.returns-in-Some
returns-in-Some c =
    one_breaks c.args.funcs.now (all_declared c.args.symbols.now.functions.now) c.loop-place.place c.index-funcs-place.result c.in_ok-found.field-0 c.in-Some.found
    c.loop-place-test.true c.index-funcs-place.is c.requires.same c.in_ok-found.ensures c.in-Some.is c.loop-place.invariant

pub loop-place-preserved : goal.loop-place-preserved
loop-place-preserved c =
    one_sound c.args.funcs.now (all_declared c.args.symbols.now.functions.now) c.loop-place.place c.index-funcs-place.result c.in_ok-found.field-0
    c.loop-place-test.true c.index-funcs-place.is c.requires.same c.in_ok-found.ensures c.in-None.is c.loop-place.invariant
