-- The stages so far are written, with a comma before each.
use Rattle.std.proofs.Common.{◌≡◌, ◌++◌, map, take}
use Rattle.std.specs.Prelude.{flat_map, codes}
use Rattle.pipeline_text.specs.Printing.{stage_text}
use Rattle.pipeline_text.proofs.printer.write_more_stages.Given as goal

abbrev pub invariant-each : goal.invariant-each
invariant-each l = l.out ≡ l.fn.out ++ flat_map (λ u. codes "," ++ u) (map stage_text (take l.stage-index l.stages))
