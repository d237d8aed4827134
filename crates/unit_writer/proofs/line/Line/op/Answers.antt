use Rattle.plain_tree.specs.Attrs.{plain_entries}
use Rattle.plain_tree.specs.Types.{plain_type}
use Rattle.std.proofs.Common.{◌∙◌, ap, map}
use Rattle.choice_code.specs.Plain.{plain_step}
use Rattle.conversion_model.specs.Templates.{labels_at}
use Rattle.unit_writer.specs.Names.{name_by}
use Rattle.unit_writer.proofs.StepLaws.{step_asked}
use Rattle.unit_writer.proofs.line.Line.op.Goals as goal

pub returns : goal.returns
returns c =
    step_asked _ _ _ (name_by c.args.self.now.names) c.args.self.now.operands.now c.args.self.now.labels.now c.args.first (plain_step c.args.step.now) _ _ _ _ _ _ (map plain_type c.as_slice.result.now) c.as_slice-2.result.now
    c.op_of.ensures c.in_ok-name.ensures (ap plain_entries (c.in_ok-props.ensures ∙ c.as_slice-4.ensures)) (ap (map plain_type) c.as_slice.ensures) c.as_slice-2.ensures
    (c.in_ok-successors.ensures ∙ ap (labels_at c.args.self.now.labels.now) c.as_slice-3.ensures) c.in_ok-results.ensures c.in_ok-operands.ensures
