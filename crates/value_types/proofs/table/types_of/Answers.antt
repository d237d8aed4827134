use Rattle.std.proofs.Common.{[]}
use Rattle.plain_tree.specs.Ops.{plain_op}
use Rattle.plain_tree.specs.Values.{op_values}
use Rattle.value_types.specs.Views.{types_in}
use Rattle.value_types.proofs.Layers.{table_is}
use Rattle.value_types.proofs.table.types_of.Goals as goal

pub returns : goal.returns
returns c =
    table_is (types_in c.note_op.new.types) (types_in c.new-types.result) (op_values (plain_op c.args.op.now) []) c.new-types.ensures c.in_ok-note_op.ensures
