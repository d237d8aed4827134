use Rattle.std.proofs.Common.{◌≡◌, drop}
use Rattle.legal_graph.specs.Depths.{is_among}
use Rattle.conversion_target.proofs.answers.has_name.Given as goal

abbrev pub invariant-each : goal.invariant-each
invariant-each l = is_among (drop l.other-index l.names) l.name ≡ is_among l.names l.name
