use Rattle.std.proofs.Common.{◌≡◌, map, take}
use Rattle.new_numbers.specs.Tables.{numbering_of, supply_of}
use Rattle.cut_code.specs.Pieces.{label_at}
use Rattle.unit_writer.specs.Names.{Asked}
use Rattle.unit_writer.proofs.pieces.labels_of.Given as goal

abbrev pub invariant-loop-label : goal.invariant-loop-label
invariant-loop-label l = Asked (numbering_of l.initial.numbers) (numbering_of l.numbers) (λ u. map (label_at ((supply_of u).row l.number)) (take l.label-index l.labels) ≡ l.list)
