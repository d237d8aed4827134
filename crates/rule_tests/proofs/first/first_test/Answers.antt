use Rattle.std.proofs.Common.{◌∙◌}
use Rattle.std.specs.Prelude.{Some, None}
use Rattle.rule_facts.specs.Views.{facts_view}
use Rattle.rule_tests.specs.Tests.{seen_from}
use Rattle.rule_tests.proofs.Keeping.{first_is}
use Rattle.rule_tests.proofs.first.first_test.Goals as goal

pub returns-in_ok-of_known-in-Some : goal.returns-in_ok-of_known-in-Some
returns-in_ok-of_known-in-Some c =
    c.in_ok-of_known-in-Some.ensures ∙ first_is (seen_from c.args.symbols.now c.args.earlier) (facts_view c.args.facts.now) (Some c.in-Some.shape) c.in-Some.ensures

pub returns-in-None : goal.returns-in-None
returns-in-None c =
    c.of_unknown.ensures ∙ first_is (seen_from c.args.symbols.now c.args.earlier) (facts_view c.args.facts.now) None c.in-None.ensures
