use Rattle.std.proofs.Common.{◌∙◌, refl}
use Rattle.plain_tree.specs.Ops.{plain_op}
use Rattle.choice_code.specs.Plain.{plain_step}
use Rattle.conversion_model.specs.Templates.{step_op}
use Rattle.unit_writer.specs.Names.{name_by}
use Rattle.unit_writer.specs.Writes.{state_of}
use Rattle.unit_writer.proofs.Layers.{copy_at}
use Rattle.unit_writer.proofs.LineLaws.{put_asked}
use Rattle.unit_writer.proofs.line.Line.put.Goals as goal

pub returns : goal.returns
returns c =
    put_asked (state_of c.args.page.now c.args.notes.now) _ (λ u. step_op (name_by c.args.self.now.names u) c.args.self.now.operands.now c.args.self.now.labels.now c.args.first (plain_step c.args.step.now)) (plain_op c.in_ok-op.op)
    (λ u. refl) (λ u. refl) (copy_at c.in_ok-op.op ∙ c.no_copy.ensures) c.in_ok-op.ensures c.in_ok-put.ensures refl
