use Rattle.std.proofs.Common.{◌≡◌, drop, map}
use Rattle.plain_tree.specs.Ops.{ops_in, plain_op}
use Rattle.use_paths.specs.Blocks.{op_homes}
use Rattle.first_places.specs.Tables.{table_in, with_firsts}
use Rattle.use_paths.proofs.homes.note_ops.Given as goal

abbrev pub invariant-loop-index : goal.invariant-loop-index
invariant-loop-index l =
    with_firsts (table_in l.homes) (op_homes l.block (ops_in (map plain_op (drop l.index l.ops))))
    ≡ with_firsts (table_in l.initial.homes) (op_homes l.block (ops_in (map plain_op l.ops)))
