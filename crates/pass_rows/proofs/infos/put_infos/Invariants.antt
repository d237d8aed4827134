use Rattle.std.proofs.Common.{◌≡◌, ◌++◌, take}
use Rattle.pass_rows.proofs.infos.put_infos.Given as goal

abbrev pub invariant-each : goal.invariant-each
invariant-each l = l.all.items ≡ l.initial.all.items ++ take l.info-index l.infos
