use Rattle.plain_tree.specs.Types.{plain_type}
use Rattle.conversion_model.specs.Types.{new_type}
use Rattle.block_casts.proofs.ChangedLaws.{plain_or_none}
use Rattle.block_casts.proofs.args.changed.Goals as goal

pub returns : goal.returns
returns c = plain_or_none c.in_ok-changed.changed (new_type c.args.bits (plain_type c.args.t.now)) c.in_ok-changed.ensures
