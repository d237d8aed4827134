use Rattle.std.proofs.Common.{ap, map, sym, ◌∙◌}
use Rattle.unit_views.proofs.Layers.{no_arguments, region_first, types_are}
use Rattle.unit_views.specs.Seen.{block_arguments}
use Rattle.value_types.specs.Trees.{plain_region}
use Rattle.unit_views.proofs.shapes.first_arguments.Goals as goal

pub returns-in-empty : goal.returns-in-empty
returns-in-empty c = ap (map (λ v. v.1)) (sym (no_arguments c.args.op.now c.as_slice.result.now (sym c.as_slice.ensures) c.in-empty.len_below))

pub returns-in-len1-up : goal.returns-in-len1-up
returns-in-len1-up c =
    types_are c.region_arguments.result.now (block_arguments (plain_region c.region-item.result)) c.region_arguments.ensures
    ∙ ap (map (λ v. v.1)) (sym (region_first c.args.op.now c.region-item.result c.as_slice.result.now (sym c.as_slice.ensures) c.in-len1-up.len_at_least c.region-item.is))
