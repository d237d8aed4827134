use Rattle.std.proofs.Common.{◌≡◌, map, take}
use Rattle.plain_tree.specs.Types.{plain_type}
use Rattle.conversion_model.specs.Templates.{step_tree}
use Rattle.row_code.specs.Lines.{step_of}
use Rattle.row_code.proofs.steps.all_steps.Given as goal

abbrev pub invariant-each : goal.invariant-each
invariant-each l = l.steps ≡ map step_tree (map (step_of (plain_type l.t)) (take l.line-index l.lines))
