use Rattle.std.proofs.Common.{◌≡◌, ◌++◌, drop}
use Rattle.scf_rows.specs.Trees.{held_trees}
use Rattle.scf_rows.proofs.conditions.push_blocks.Given as goal

abbrev pub invariant-each : goal.invariant-each
invariant-each l = l.pieces ++ held_trees l.place (drop l.place l.blocks) ≡ l.initial.pieces ++ held_trees 0 l.blocks
