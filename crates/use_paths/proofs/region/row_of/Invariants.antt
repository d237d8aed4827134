use Rattle.std.proofs.Common.{◌≡◌, map, take}
use Rattle.first_places.specs.Tables.{place_by, table_in}
use Rattle.use_paths.proofs.region.row_of.Given as goal

abbrev pub invariant-loop-label : goal.invariant-loop-label
invariant-loop-label l =
    l.row.items ≡ map (place_by (table_in l.places) l.count) (take l.label-index l.labels)
