use Rattle.std.proofs.Common.{◌≡◌, ◌++◌, take}
use Rattle.edit_list.proofs.list.EditList.join_back.Given as goal

abbrev pub invariant-loop-place : goal.invariant-loop-place
invariant-loop-place l = record {
  list : l.self.list ≡ l.initial.self.list ++ take l.place l.more.list;
  room : l.self.room ≡ l.initial.self.room;
}
