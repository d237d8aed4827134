use Rattle.std.proofs.Common.{◌≡◌, ◌≤◌, drop}
use Rattle.line_grammar.specs.Language.{first_at}
use Rattle.text_events.proofs.FirstLemmas.{ahead}
use Rattle.text_scopes.specs.Bodies.{class_in}
use Rattle.text_kinds.specs.Shapes.{first_misplaced, misplaces, spot_behind}
use Rattle.text_kinds.proofs.misplaced.first_misplaced.Given as goal

-- what is left decides
abbrev pub invariant-loop-index : goal.invariant-loop-index
invariant-loop-index l = record {
  bound : l.spot.body.within ≤ l.index;
  is : ahead l.index (first_at (spot_behind (class_in l.classes)) (misplaces (class_in l.classes)) l.spot (drop l.index l.events)) ≡ first_misplaced (class_in l.classes) l.events;
}
