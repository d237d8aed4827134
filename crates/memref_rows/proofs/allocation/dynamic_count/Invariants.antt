use Rattle.std.proofs.Common.{◌≡◌, ◌+◌, ◌≤◌, drop}
use Rattle.pattern_model.specs.MemrefRows.{dynamic_count}
use Rattle.memref_rows.proofs.allocation.dynamic_count.Given as goal

abbrev pub invariant-each : goal.invariant-each
invariant-each l = record { few : l.count ≤ l.dim-index; rest : l.count + dynamic_count (drop l.dim-index l.dims) ≡ dynamic_count l.dims }
