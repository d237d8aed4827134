use Rattle.std.proofs.Common.{◌≡◌, ◌++◌, drop, map}
use Rattle.legal_graph.specs.Graphs.{info_of}
use Rattle.pass_rows.specs.Parts.{patterns_at}
use Rattle.pass_rows.proofs.set.AllSets.all_infos.Given as goal

abbrev pub invariant-each : goal.invariant-each
invariant-each l = l.infos.items ++ map info_of (patterns_at (drop l.part-index l.parts)) ≡ map info_of (patterns_at l.parts)
