use Rattle.std.proofs.Common.{◌∙◌}
use Rattle.use_paths.proofs.Layers.{stops_by}
use Rattle.use_paths.proofs.region.stops_path.Goals as goal

pub returns : goal.returns
returns c = c.ends_block.ensures ∙ stops_by c.args.op.now c.shape_of.result c.shape_of.ensures
