use Rattle.std.proofs.Common.{◌≡◌, ◌≤◌, ◌++◌, drop}
use Rattle.event_trees.specs.Numbers.{meant_from}
use Rattle.event_trees.specs.Wording.{wording_of}
use Rattle.module_trees.specs.Left.{left_from}
use Rattle.module_trees.proofs.meant.meant_at.Given as goal

-- the numbers so far, and those that are left
abbrev pub invariant-each : goal.invariant-each
invariant-each l = record {
  values : l.next.values ≤ l.index;
  labels : l.next.labels ≤ l.index;
  is : l.all.items ++ meant_from (wording_of l.source.text.now l.source.words.now) l.numbers (left_from l.definitions.values.now l.definitions.labels.now l.next) (drop l.index l.events) (drop l.index l.numbers)
      ≡ meant_from (wording_of l.source.text.now l.source.words.now) l.numbers (record { values = l.definitions.values.now; labels = l.definitions.labels.now }) l.events l.numbers;
}
