use Rattle.std.proofs.Common.{◌≤◌, length, take}
use Rattle.std.specs.Prelude.{◌↔◌}
use Rattle.use_paths.specs.Levels.{Missed}
use Rattle.use_paths.specs.Views.{spots_in}
use Rattle.use_paths.proofs.walk.Walk.home_of.Given as goal

abbrev pub invariant-loop-depth : goal.invariant-loop-depth
invariant-loop-depth l = record {
  within : l.depth ≤ length l.self.levels.items;
  still : Missed (spots_in (take l.depth l.self.levels.items)) l.value ↔ Missed (spots_in l.self.levels.items) l.value;
}

abbrev pub decreases-loop-depth : goal.decreases-loop-depth
decreases-loop-depth l = l.depth
