use Rattle.std.proofs.Common.{ap}
use Rattle.plain_tree.specs.Ops.{plain_values}
use Rattle.choice_code.specs.Plain.{plain_template}
use Rattle.unit_writer.proofs.PutLaws.{line_put}
use Rattle.unit_writer.proofs.put.write_line.Goals as goal

pub returns : goal.returns
returns c =
    line_put c.args.op.now c.args.place.0 c.args.place.1 (plain_template c.args.template.now) (plain_values c.as_slice.result.now) c.as_slice-2.result.now c.as_slice-3.result.now _ _
    (ap plain_values c.as_slice.ensures) c.as_slice-2.ensures c.as_slice-3.ensures c.in_ok-write_template.ensures
