use Rattle.std.proofs.Common.{◌≡◌, map, take}
use Rattle.driver_cases.specs.Table.{info_at}
use Rattle.driver_cases.proofs.rows.all_infos.Given as goal

abbrev pub invariant-each : goal.invariant-each
invariant-each l = l.infos.items ≡ map info_at (take l.entry-index l.entries)
