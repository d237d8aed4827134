use Rattle.std.proofs.Common.{◌≡◌, ℕ, List, take}
use Rattle.std.specs.Prelude.{◌||◌}
use Rattle.std.specs.Str.{bytes_eq}
use Rattle.std.specs.HashSet.{contains}
use Rattle.legal_graph.specs.Depths.{is_among}
use Rattle.legal_graph.proofs.graph.put_names.Given as goal

abbrev pub invariant-each : goal.invariant-each
invariant-each l = (q : List ℕ) → contains bytes_eq l.set q ≡ (is_among (take l.name-index l.names) q || contains bytes_eq l.initial.set q)
