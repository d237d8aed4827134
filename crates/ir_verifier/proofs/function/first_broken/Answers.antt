use Rattle.plain_tree.specs.Ops.{plain_func}
use Rattle.rule_tests.specs.Tests.{seen_from}
use Rattle.ir_verifier.proofs.Least.{least_found}
use Rattle.ir_verifier.proofs.function.first_broken.Goals as goal

pub returns : goal.returns
returns c =
    least_found (seen_from c.args.symbols.now c.args.earlier) (plain_func c.args.func.now) c.in_ok-test.test c.in_ok-undefined.undefined c.in_ok-own.own _ _ _ _
    c.in_ok-test.ensures (c.in_ok-undefined.ensures c.requires.numbered) (c.in_ok-own.ensures c.requires.numbered)
    c.at_place.ensures c.sooner-without_own.ensures c.at_place-2.ensures c.sooner.ensures
