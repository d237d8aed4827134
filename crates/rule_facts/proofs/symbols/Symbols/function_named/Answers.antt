use Rattle.std.proofs.Common.{◌∙◌}
use Rattle.rule_facts.specs.Views.{all_declared}
use Rattle.rule_facts.proofs.FindingLemmas.{at_none, at_some}
use Rattle.rule_facts.proofs.symbols.Symbols.function_named.Goals as goal

pub returns-in-Some : goal.returns-in-Some
returns-in-Some c = at_some c.args.name.now c.args.self.now.functions.now c.in-Some.place c.copied.result c.in-Some.ensures (c.copied.ensures ∙ c.at.ensures)

pub returns-in-None : goal.returns-in-None
returns-in-None c = at_none c.args.name.now (all_declared c.args.self.now.functions.now) c.in-None.ensures
