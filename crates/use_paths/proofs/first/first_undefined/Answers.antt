use Rattle.plain_tree.specs.Ops.{plain_op}
use Rattle.use_paths.proofs.Sites.{undefined_at}
use Rattle.use_paths.proofs.first.first_undefined.Goals as goal

pub returns : goal.returns
returns c = undefined_at (plain_op c.args.function.now) c.in_ok-place.place c.in_ok-place.ensures
