use Rattle.std.proofs.Common.{◌≡◌, ◌++◌, drop, map}
use Rattle.plain_tree.specs.Types.{plain_type}
use Rattle.plain_tree.specs.Ops.{plain_values}
use Rattle.new_numbers.specs.Tables.{numbering_of}
use Rattle.unit_writer.specs.Functions.{params_behind}
use Rattle.unit_writer.specs.Names.{Asked}
use Rattle.unit_writer.proofs.function.add_params.Given as goal

abbrev pub invariant-loop-t : goal.invariant-loop-t
invariant-loop-t l =
    Asked (numbering_of l.initial.numbers) (numbering_of l.numbers)
    (λ u. plain_values l.initial.params ++ params_behind u l.initial.params (map plain_type l.types) ≡ plain_values l.params ++ params_behind u l.params (map plain_type (drop l.t-index l.types)))
