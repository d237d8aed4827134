use Rattle.std.proofs.Common.{◌≡◌}
use Rattle.stand_ins.specs.Tables.{stands_for}
use Rattle.tree_uses.proofs.ListLaws.{front_changed}
use Rattle.tree_uses.proofs.lists.stand_ins_of.Given as goal

abbrev pub invariant-each : goal.invariant-each
invariant-each l = l.list ≡ front_changed (stands_for l.to) l.index l.fn.values
