use Rattle.std.proofs.Common.{◌≡◌, map, take}
use Rattle.new_numbers.specs.Tables.{numbering_of}
use Rattle.conversion_model.specs.Templates.{number_of}
use Rattle.unit_writer.specs.Names.{Asked, name_by}
use Rattle.unit_writer.proofs.line.Line.numbers.Given as goal

abbrev pub invariant-loop-source : goal.invariant-loop-source
invariant-loop-source l = Asked (numbering_of l.initial.numbers) (numbering_of l.numbers) (λ u. map (number_of (name_by l.self.names u) l.self.operands.now) (take l.source-index l.sources) ≡ l.list)
