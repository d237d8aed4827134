use Rattle.std.proofs.Common.{◌≡◌, ◌≤◌, ◌++◌, drop}
use Rattle.text_scopes.specs.Bodies.{class_in}
use Rattle.event_trees.specs.Numbers.{no_counts, numbers_from}
use Rattle.event_trees.specs.Wording.{wording_of}
use Rattle.module_trees.proofs.numbers.numbers_at.Given as goal

-- the numbers so far, and those that are left
abbrev pub invariant-each : goal.invariant-each
invariant-each l = record {
  within : l.counts.body.within ≤ l.index;
  is : l.numbers.items ++ numbers_from (wording_of l.source.text.now l.source.words.now) (class_in l.classes) l.counts (drop l.index l.events) (drop l.index l.results)
      ≡ numbers_from (wording_of l.source.text.now l.source.words.now) (class_in l.classes) no_counts l.events l.results;
}
