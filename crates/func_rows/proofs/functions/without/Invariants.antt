use Rattle.std.proofs.Common.{◌≡◌, ◌++◌, drop}
use Rattle.func_rows.specs.Entries.{trees_without}
use Rattle.func_rows.proofs.functions.without.Given as goal

abbrev pub invariant-each : goal.invariant-each
invariant-each l = l.kept ++ trees_without l.name (drop l.entry-index l.entries) ≡ trees_without l.name l.entries
