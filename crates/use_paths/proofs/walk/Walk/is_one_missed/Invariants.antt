use Rattle.std.proofs.Common.{◌≡◌, drop}
use Rattle.std.specs.Prelude.{◌↔◌}
use Rattle.std.specs.List.{All}
use Rattle.rule_model.specs.Words.{AnyOf}
use Rattle.use_paths.specs.Levels.{Missed}
use Rattle.use_paths.specs.Views.{IsRight, spots_in}
use Rattle.use_paths.proofs.walk.Walk.is_one_missed.Given as goal

abbrev pub invariant-loop-value : goal.invariant-loop-value
invariant-loop-value l = record {
  right : All IsRight l.self.levels.items;
  kept : spots_in l.self.levels.items ≡ spots_in l.initial.self.levels.items;
  count : l.self.count ≡ l.initial.self.count;
  found : l.self.found ≡ l.initial.self.found;
  still : AnyOf (Missed (spots_in l.initial.self.levels.items)) (drop l.value-index l.values) ↔ AnyOf (Missed (spots_in l.initial.self.levels.items)) l.values;
}
