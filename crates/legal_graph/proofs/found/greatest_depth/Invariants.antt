use Rattle.std.proofs.Common.{◌≡◌, Some, drop}
use Rattle.std.specs.Str.{bytes_eq}
use Rattle.std.specs.HashMap.{get}
use Rattle.std.specs.HashSet.{contains}
use Rattle.conversion_model.specs.Chosen.{deeper}
use Rattle.legal_graph.specs.Depths.{greatest_of, level}
use Rattle.legal_graph.proofs.found.greatest_depth.Given as goal

abbrev pub invariant-loop-name : goal.invariant-loop-name
invariant-loop-name l =
    let depth = level (contains bytes_eq l.legal) (get bytes_eq l.found) in
    deeper (Some l.most) (greatest_of depth (drop l.name-index l.names)) ≡ greatest_of depth l.names
