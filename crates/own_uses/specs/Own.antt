-- An operation breaks rule `OwnUse`.
use Rattle.plain_tree.specs.Ops.{Op}
use Rattle.rule_model.specs.Words.{AnyOf}
use Rattle.rule_model.specs.Chains.{Chain}
use Rattle.rule_model.specs.Sites.{Site}

-- one of its results uses itself
abbrev pub UsesItself : Op → Site → Type 0
UsesItself f s = AnyOf (λ v. Chain f v v) s.results
