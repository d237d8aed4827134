use Rattle.std.proofs.Common.{refl}
use Rattle.text_events.proofs.alias.AliasTable.begin.Goals as goal

pub returns : goal.returns
returns c = λ a agrees. record { known = (c.in_ok-end.ensures a agrees).known; current = refl }
