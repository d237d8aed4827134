use Rattle.std.proofs.Common.{◌≡◌, take}
use Rattle.plain_tree.specs.Ops.{plain_values}
use Rattle.conversion_model.specs.Templates.{numbers}
use Rattle.unit_writer.proofs.function.numbers_of.Given as goal

abbrev pub invariant-loop-value : goal.invariant-loop-value
invariant-loop-value l = l.list ≡ numbers (plain_values (take l.value-index l.values))
