use Rattle.copy_uses.proofs.FollowLaws.{copies_left}
use Rattle.copy_uses.proofs.whole.law_copies_left_out.Goals as goal

pub returns : goal.returns
returns c = copies_left
