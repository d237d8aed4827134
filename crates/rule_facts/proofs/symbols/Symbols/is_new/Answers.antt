use Rattle.std.proofs.Common.{sym, ap}
use Rattle.std.specs.Prelude.{not}
use Rattle.rule_facts.specs.Views.{all_declared}
use Rattle.rule_facts.proofs.FindingLemmas.{none_new, some_new}
use Rattle.rule_facts.proofs.symbols.Symbols.is_new.Goals as goal

pub returns-in-Some : goal.returns-in-Some
returns-in-Some c = some_new c.args.name.now (all_declared c.args.self.now.functions.now) c.args.count c.in-Some.place c.in-Some.ensures

pub returns-in-None : goal.returns-in-None
returns-in-None c = ap not (sym (none_new c.args.name.now (all_declared c.args.self.now.functions.now) c.args.count c.in-None.ensures))
