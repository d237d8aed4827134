use Rattle.std.proofs.Common.{◌≡◌, drop}
use Rattle.line_grammar.specs.Language.{first_at}
use Rattle.text_events.proofs.FirstLemmas.{ahead}
use Rattle.text_scopes.specs.Bodies.{class_in}
use Rattle.text_kinds.specs.Tallies.{Within, counted, first_over, passes}
use Rattle.text_kinds.proofs.limits.first_over.Given as goal

-- what is left decides
abbrev pub invariant-loop-index : goal.invariant-loop-index
invariant-loop-index l = record {
  within : Within l.index l.tally;
  is : ahead l.index (first_at (counted (class_in l.classes)) (passes l.limit (class_in l.classes)) l.tally (drop l.index l.events)) ≡ first_over l.limit (class_in l.classes) l.events;
}
