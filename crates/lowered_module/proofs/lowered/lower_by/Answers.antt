use Rattle.plain_tree.specs.Ops.{plain_module}
use Rattle.pass_fold.specs.Views.{folded_view}
use Rattle.lowered_module.proofs.RisingLaws.{folds_rise}
use Rattle.lowered_module.proofs.lowered.lower_by.Goals as goal

pub lines_behind-requires : goal.lines_behind-requires
lines_behind-requires g c = folds_rise c.args.pipeline.now (plain_module c.args.tree) (folded_view c.in_ok-folded.folded) c.in_ok-folded.ensures
