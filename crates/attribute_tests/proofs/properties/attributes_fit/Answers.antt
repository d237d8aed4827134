use Rattle.std.proofs.Common.{◌∙◌}
use Rattle.rule_facts.specs.Views.{facts_view}
use Rattle.attribute_tests.proofs.Others.{others_are}
use Rattle.attribute_tests.proofs.properties.attributes_fit.Goals as goal

pub returns-in_default : goal.returns-in_default
returns-in_default c = c.of_others.ensures ∙ others_are (facts_view c.args.facts.now) c.args.shape c.in_default.not-Switch
