use Rattle.std.proofs.Common.{sym, ap, ◌∙◌}
use Rattle.plain_tree.specs.Ops.{plain_values}
use Rattle.unit_views.proofs.Layers.{block_first, no_block}
use Rattle.unit_views.proofs.shapes.region_arguments.Goals as goal

pub returns-in-empty : goal.returns-in-empty
returns-in-empty c = sym (no_block c.args.region.now c.as_slice.result.now (sym c.as_slice.ensures) c.in-empty.len_below)

pub returns-in-len1-up : goal.returns-in-len1-up
returns-in-len1-up c =
    ap plain_values c.as_slice-in-len1-up.ensures
    ∙ sym (block_first c.args.region.now c.block-item.result c.as_slice.result.now (sym c.as_slice.ensures) c.in-len1-up.len_at_least c.block-item.is)
