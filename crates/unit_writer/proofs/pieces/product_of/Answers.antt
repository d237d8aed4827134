use Rattle.plain_tree.specs.Attrs.{plain_entries}
use Rattle.std.proofs.Common.{◌∙◌, ap}
use Rattle.unit_writer.proofs.StepLaws.{product_asked}
use Rattle.unit_writer.proofs.pieces.product_of.Goals as goal

pub returns : goal.returns
returns c =
    product_asked _ _ _ _ c.args.number c.args.product.now _ _ _ _ _ _ c.as_slice.result.now c.as_slice-2.result.now c.as_slice-3.result.now c.op_of.ensures c.in_ok-name.ensures (ap plain_entries (c.in_ok-props.ensures ∙ c.as_slice-4.ensures))
    c.as_slice.ensures c.as_slice-2.ensures c.as_slice-3.ensures c.in_ok-results.ensures c.in_ok-operands.ensures c.in_ok-successors.ensures
