use Rattle.frame_code.proofs.MoveLaws.{region_some, region_none}
use Rattle.std.proofs.Common.{ap, ◌∙◌}
use Rattle.run_code.specs.Views.{blocks_of}
use Rattle.frame_code.proofs.regions.region_at.Goals as goal

pub returns-in-Some : goal.returns-in-Some
returns-in-Some c = ap blocks_of c.as_slice.ensures ∙ region_some c.args.regions.now c.args.i c.in-Some.region.now c.in-Some.ensures

pub returns-in-None : goal.returns-in-None
returns-in-None c = region_none c.args.regions.now c.args.i c.in-None.ensures
