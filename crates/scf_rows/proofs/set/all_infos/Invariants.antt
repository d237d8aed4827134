use Rattle.std.proofs.Common.{◌≡◌, map, take}
use Rattle.scf_rows.specs.Table.{info_at}
use Rattle.scf_rows.proofs.set.all_infos.Given as goal

abbrev pub invariant-each : goal.invariant-each
invariant-each l = l.infos.items ≡ map info_at (take l.entry-index l.table)
