-- What tables, regions and levels stand for.
use Rattle.std.specs.Prelude.{ℕ, ◌<◌, ◌↔◌, List, map, Option, Some, None, get_or, length, reverse}
use Rattle.block_search.specs.Reach.{rows}
use Rattle.use_paths.specs.declared.walk.HomeLevel.{HomeLevel}
use Rattle.use_paths.specs.declared.level.Level.{Level}
use Rattle.use_paths.specs.declared.region.Region.{Region}
use Rattle.first_places.specs.Tables.{place_by, table_in}
use Rattle.use_paths.specs.Levels.{Known, Missed, Missing, Spot}
use Rattle.use_paths.specs.Marked.{AreRight}

abbrev pub known_in : Region → Known
known_in r = record {
  places = place_by (table_in r.places) (length r.searches.edges.items);
  homes = table_in r.homes;
  ends = r.ends.items;
  edges = rows r.searches.edges.items;
}

abbrev pub spot_in : Level → Spot
spot_in l = record { known = known_in l.region; block = l.block; left = l.left }

-- the innermost first
abbrev pub spots_in : List Level → List Spot
spots_in levels = reverse (map spot_in levels)

-- what was found in its region is right
abbrev pub IsRight : Level → Type 0
IsRight l = AreRight (rows l.region.searches.edges.items) l.region.searches.found

-- the home of a value, by the level that it is at: its region is the innermost one that defines the value
abbrev pub HomeBy : List Level → ℕ → Option HomeLevel → Type 0
HomeBy levels u None = Missed (spots_in levels) u
HomeBy levels u (Some p) = (p.depth < length levels) × ((d : Level) → Missed (spots_in levels) u ↔ Missing (spot_in (get_or levels p.depth d)) p.home)
