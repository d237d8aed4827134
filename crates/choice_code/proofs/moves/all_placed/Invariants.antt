use Rattle.std.proofs.Common.{◌≡◌, map, take}
use Rattle.conversion_model.specs.Chosen.{placed}
use Rattle.choice_code.proofs.moves.all_placed.Given as goal

abbrev pub invariant-each : goal.invariant-each
invariant-each l = l.all ≡ map (placed l.operands l.base) (take l.source-index l.sources)
