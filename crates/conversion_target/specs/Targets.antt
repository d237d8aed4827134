-- Targets of code as those of the definitions.
use Rattle.std.specs.Prelude.{ℕ, List, ◌∷◌, Option, Some, None, if◌then◌else◌}
use Rattle.std.specs.Str.{bytes_eq}
use Rattle.conversion_model.specs.Targets.{Legality, Rule, Target}
use Rattle.conversion_model.specs.Targets as says
use Rattle.legal_graph.specs.Depths.{is_among}
use Rattle.conversion_target.specs.declared.rule.LegalRule.{LegalRule}
use Rattle.conversion_target.specs.declared.rule.LegalRule.TheVariants.{TypesOwn, HasAttr}
use Rattle.conversion_target.specs.declared.target.Target as code
use Rattle.conversion_target.specs.declared.answers.Legality as answer
use Rattle.conversion_target.specs.declared.answers.Legality.TheVariants.{Legal, Dynamic, Illegal, Unknown}

abbrev pub rule_of : LegalRule → Rule
rule_of TypesOwn = says.TypesOwn
rule_of (HasAttr name) = says.HasAttr name

abbrev pub legality_of : answer.Legality → Legality
legality_of Legal = says.Legal
legality_of (Dynamic rule) = says.Dynamic (rule_of rule.now)
legality_of Illegal = says.Illegal
legality_of Unknown = says.Unknown

-- the rule of the first name that is this one
abbrev pub rule_in : List (List ℕ) → List LegalRule → List ℕ → Option LegalRule
rule_in (n ∷ ns) (r ∷ rs) name = if bytes_eq n name then Some r else rule_in ns rs name
rule_in _ _ name = None

abbrev pub dynamic_or : Option LegalRule → Legality → Legality
dynamic_or None other = other
dynamic_or (Some rule) other = says.Dynamic (rule_of rule)

-- the first of the three lists that has a name decides
abbrev pub target_of : code.Target → Target
target_of t name =
    if is_among t.names.always name then says.Legal
    else dynamic_or (rule_in t.names.dynamic t.rules.items name) (if is_among t.illegal name then says.Illegal else says.Unknown)
