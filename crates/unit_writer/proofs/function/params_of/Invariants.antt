use Rattle.std.proofs.Common.{◌≡◌, ◌++◌, [], drop}
use Rattle.plain_tree.specs.Ops.{plain_values}
use Rattle.new_numbers.specs.Tables.{numbering_of}
use Rattle.unit_writer.specs.Functions.{entry_types, params_behind}
use Rattle.unit_writer.specs.Names.{Asked}
use Rattle.unit_writer.proofs.function.params_of.Given as goal

abbrev pub invariant-loop-part : goal.invariant-loop-part
invariant-loop-part l =
    Asked (numbering_of l.initial.numbers) (numbering_of l.numbers)
    (λ u. params_behind u [] (entry_types l.entry) ≡ plain_values l.params ++ params_behind u l.params (entry_types (drop l.part-index l.entry)))
