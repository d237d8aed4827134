use Rattle.std.proofs.Common.{◌≡◌, take}
use Rattle.new_numbers.specs.Tables.{numbering_of, supply_of}
use Rattle.plain_tree.specs.Ops.{plain_values}
use Rattle.unit_writer.specs.Names.{Asked, new_results}
use Rattle.unit_writer.proofs.pieces.results_of.Given as goal

abbrev pub invariant-loop-known : goal.invariant-loop-known
invariant-loop-known l = Asked (numbering_of l.initial.numbers) (numbering_of l.numbers) (λ u. new_results ((supply_of u).row l.number) (take l.known-index l.results) ≡ plain_values l.list)
