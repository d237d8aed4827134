use Rattle.std.proofs.Common.{◌≡◌, drop}
use Rattle.line_grammar.specs.Language.{first_at}
use Rattle.text_events.proofs.FirstLemmas.{ahead}
use Rattle.text_scopes.specs.Bodies.{class_in}
use Rattle.text_kinds.specs.Classes.{first_unknown, kept, stands_unknown}
use Rattle.text_kinds.proofs.unknown.first_unknown.Given as goal

-- what is left decides
abbrev pub invariant-loop-index : goal.invariant-loop-index
invariant-loop-index l = ahead l.index (first_at kept (stands_unknown (class_in l.classes)) l.allowed (drop l.index l.events)) ≡ first_unknown (class_in l.classes) l.allowed l.events
