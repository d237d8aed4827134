use Rattle.std.proofs.Common.{ap, refl, sym}
use Rattle.plain_tree.specs.Ops.{plain_values}
use Rattle.cut_code.specs.Pieces.{label_at}
use Rattle.new_numbers.specs.Tables.{supply_of}
use Rattle.unit_writer.proofs.PutLaws.{opens_put}
use Rattle.unit_writer.proofs.put.write_opens.Goals as goal

pub returns : goal.returns
returns c =
    opens_put (λ u. label_at ((supply_of u).row c.args.number) c.args.label) c.in_ok-label.label (plain_values c.args.args.now) (plain_values c.in_ok-args.args) _ _
    c.in_ok-label.ensures (ap plain_values (sym c.in_ok-args.ensures)) c.in_ok-begin.ensures refl
