use Rattle.std.proofs.Common.{◌≡◌, map, take}
use Rattle.cut_code.specs.Sketches.{blocks_seen, region_view}
use Rattle.value_types.specs.Trees.{plain_region}
use Rattle.unit_views.proofs.sketches.region_sketches.Given as goal

abbrev pub invariant-each : goal.invariant-each
invariant-each l = map region_view l.sketches ≡ map blocks_seen (map plain_region (take l.region-index l.regions))
