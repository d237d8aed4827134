use Rattle.std.proofs.Common.{◌≡◌, map, take}
use Rattle.plain_tree.specs.Types.{plain_type}
use Rattle.pattern_model.specs.FuncRows.{part_of}
use Rattle.cut_code.specs.Frames.{part_tree}
use Rattle.func_rows.proofs.parts.all_parts.Given as goal

abbrev pub invariant-each : goal.invariant-each
invariant-each l = l.parts ≡ map part_tree (map (part_of l.bits) (map plain_type (take l.t-index l.types)))
