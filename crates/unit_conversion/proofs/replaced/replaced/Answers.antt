use Rattle.std.proofs.Common.{◌∙◌, ap}
use Rattle.plain_tree.specs.Ops.{plain_op}
use Rattle.conversion_model.specs.Uses.{followed, op_uses}
use Rattle.new_numbers.specs.Tables.{numbering_of}
use Rattle.new_numbers.proofs.PlaceLaws.{extends_on}
use Rattle.unit_writer.specs.Writes.{notes_view}
use Rattle.unit_conversion.proofs.StageLaws.{replaces}
use Rattle.unit_conversion.proofs.replaced.replaced.Goals as goal

pub returns-clause-fresh : goal.returns-clause-fresh
returns-clause-fresh c = λ u h. c.of.ensures u (extends_on (numbering_of c.of.result) (numbering_of c.written.new.notes.numbers) u c.in_ok-alone.ensures.extends h)

pub returns-clause-op : goal.returns-clause-op
returns-clause-op c =
    replaces c.args.chosen (plain_op c.args.f.now) (plain_op c.in_ok-alone.alone) (plain_op c.in_ok-op.op)
    (record { pairs = c.new.result.items; table = numbering_of c.of.result }) (notes_view c.written.new.notes)
    c.new.ensures.items c.in_ok-alone.ensures
    (c.in_ok-op.ensures ∙ ap (λ ps. op_uses (followed ps (λ v. v)) (plain_op c.in_ok-alone.alone)) c.as_slice.ensures.value)
