use Rattle.std.proofs.Common.{◌≡◌, ◌≤◌, length, drop, map, reverse}
use Rattle.term_table.specs.Terms.{term_at}
use Rattle.event_trees.specs.Levels.{levels_of}
use Rattle.event_trees.specs.Roles.{roles_of}
use Rattle.event_trees.specs.Wording.{wording_of}
use Rattle.module_trees.specs.Views.{AllWithin, level_of}
use Rattle.module_trees.proofs.words.levels_of.Given as goal

-- what stands from here on
abbrev pub invariant-each : goal.invariant-each
invariant-each l = record {
  bound : l.index ≤ length l.events;
  is : map (level_of l.terms.nodes.keys) (reverse l.levels.items)
      ≡ levels_of (wording_of l.source.text.now l.source.words.now) (roles_of (drop l.index l.events) (drop l.index l.meant) (map (term_at l.terms.nodes.keys) (drop l.index l.begun)));
  within : AllWithin (length l.terms.nodes.keys) (reverse l.levels.items);
}

abbrev pub decreases-each : goal.decreases-each
decreases-each l = l.index
