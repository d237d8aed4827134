use Rattle.std.proofs.Common.{◌≡◌, map, take}
use Rattle.new_numbers.specs.Tables.{numbering_of, supply_of}
use Rattle.cut_code.specs.Pieces.{value_at}
use Rattle.unit_writer.specs.Names.{Asked}
use Rattle.unit_writer.proofs.pieces.values_of.Given as goal

abbrev pub invariant-loop-value : goal.invariant-loop-value
invariant-loop-value l = Asked (numbering_of l.initial.numbers) (numbering_of l.numbers) (λ u. map (value_at ((supply_of u).row l.number)) (take l.value-index l.values) ≡ l.list)
