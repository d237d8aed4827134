-- The passes so far are written, with a comma before each.
use Rattle.std.proofs.Common.{◌≡◌, ◌++◌, map, take}
use Rattle.std.specs.Prelude.{flat_map, codes}
use Rattle.pipeline_text.specs.Printing.{use_text}
use Rattle.pipeline_text.proofs.printer.write_more_uses.Given as goal

abbrev pub invariant-each : goal.invariant-each
invariant-each l = l.out ≡ l.fn.out ++ flat_map (λ u. codes "," ++ u) (map use_text (take l.pass-index l.passes))
