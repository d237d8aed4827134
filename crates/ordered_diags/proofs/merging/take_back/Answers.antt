-- Nothing is left.
use Rattle.std.proofs.Common.{◌≡◌, [], arith}
use Rattle.ordered_diags.proofs.Reversed.{taken_behind}
use Rattle.ordered_diags.proofs.merging.take_back.Goals as goal

pub returns : goal.returns
returns c = taken_behind c.args.all.now.items c.args.list c.each.all.items (let empty : c.each.list ≡ [] = grind arith in rw empty at c.each.invariant)
