-- The count goes on from where the naming left it, which did not move it.
use Rattle.std.proofs.Common.{◌+◌, ap}
use Rattle.generic_printer.proofs.Walk.{same_parts}
use Rattle.generic_printer.proofs.table.Table.name_argument.Goals as goal

pub returns : goal.returns
returns c = rw c.in_ok-self.ensures (same_parts (ap (λ k. k + 1) c.in_ok-name.ensures.first) (c.in_ok-name.ensures.second) c.in_ok-name.ensures.names)
