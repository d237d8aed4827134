use Rattle.std.proofs.Common.{ap}
use Rattle.plain_tree.specs.Ops.{plain_op}
use Rattle.new_numbers.specs.declared.tops.Tops.{Tops}
use Rattle.new_numbers.proofs.FreshTables.{fresh_behind}
use Rattle.new_numbers.proofs.table.NewNumbers.of.Goals as goal

pub returns : goal.returns
returns c =
    λ u h. fresh_behind (plain_op c.args.function.now) (record { values = 0; labels = 0 }) _ u (ap (λ (t : Tops). t.values) c.see_op.ensures) (ap (λ (t : Tops). t.labels) c.see_op.ensures) h
