use Rattle.std.proofs.Common.{◌≡◌, ◌+◌, ◌≤◌, drop}
use Rattle.row_code.specs.Infos.{texts}
use Rattle.ready_passes.specs.Roots.{count_of}
use Rattle.ready_passes.proofs.roots.count_roots.Given as goal

abbrev pub invariant-each : goal.invariant-each
invariant-each l = (l.count + count_of l.name (texts (drop l.root-index l.roots)) ≡ count_of l.name (texts l.roots)) × (l.count ≤ l.root-index)
