-- The plain form of types that are written out.
use Rattle.std.proofs.lemmas.Grind.{common_steps}
use Rattle.rule_facts.proofs.AttrOpens.{type_opens}

pub ruleset opens = (common_steps, type_opens)
