use Rattle.std.proofs.Common.{ap, map}
use Rattle.plain_tree.specs.Ops.{plain_values}
use Rattle.choice_code.specs.Plain.{plain_step, plain_template}
use Rattle.new_numbers.specs.Tables.{supply_of}
use Rattle.unit_writer.specs.Names.{name_by}
use Rattle.unit_writer.proofs.StepLaws.{template_by}
use Rattle.unit_writer.proofs.line.write_template.Goals as goal

pub returns : goal.returns
returns c =
    template_by (name_by c.in_ok-names.names) (λ u. (supply_of u).value c.args.place.0 c.args.place.1) (plain_values c.args.of.now.results.now) c.args.of.now.operands.now c.args.of.now.labels.now (plain_template c.args.template.now)
    c.as_slice.result.now c.as_slice-3.result.now (map plain_step c.as_slice-2.result.now) _ _ _ c.as_slice.ensures (ap (map plain_step) c.as_slice-2.ensures) c.as_slice-3.ensures c.in_ok-names.ensures c.in_ok-put_all.ensures c.in_ok-stand_all.ensures
