use Rattle.std.proofs.Common.{◌≡◌, ◌++◌, drop, map}
use Rattle.plain_tree.specs.Types.{plain_type}
use Rattle.plain_tree.specs.Ops.{plain_values}
use Rattle.conversion_model.specs.Templates.{values_made}
use Rattle.new_numbers.specs.Tables.{numbering_of}
use Rattle.unit_writer.specs.Names.{Asked, name_by}
use Rattle.unit_writer.proofs.line.Line.values.Given as goal

abbrev pub invariant-loop-t : goal.invariant-loop-t
invariant-loop-t l =
    Asked (numbering_of l.initial.numbers) (numbering_of l.numbers)
    (λ u. values_made (name_by l.self.names u) l.first (map plain_type l.types) ≡ plain_values l.list ++ values_made (name_by l.self.names u) l.place (map plain_type (drop l.t-index l.types)))
