-- An operation breaks rule `Defined`.
use Rattle.rule_model.specs.Words.{AnyOf}
use Rattle.rule_model.specs.Paths.{Undefined}
use Rattle.rule_model.specs.Sites.{Site}

-- one of its uses isn't defined there
abbrev pub UsesUndefined : Site → Type 0
UsesUndefined s = AnyOf (Undefined s.frames) s.operands
