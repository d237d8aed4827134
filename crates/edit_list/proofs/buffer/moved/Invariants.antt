use Rattle.std.proofs.Common.{◌≡◌, ◌≤◌, ◌+◌, ◌-◌, length}
use Rattle.edit_list.specs.Listed.{around}
use Rattle.edit_list.proofs.buffer.moved.Given as goal

abbrev pub invariant-back : goal.invariant-back
invariant-back l = record {
  ordered : l.start ≤ l.end;
  inside : l.end ≤ length l.items;
  gap : l.end + l.fn.start ≡ l.start + l.fn.end;
  same : around l.items l.start l.end ≡ around l.fn.items l.fn.start l.fn.end;
}

abbrev pub decreases-back : goal.decreases-back
decreases-back l = l.start

abbrev pub invariant-on : goal.invariant-on
invariant-on l = record {
  low : l.start ≤ l.at;
  ordered : l.start ≤ l.end;
  inside : l.end ≤ length l.items;
  gap : l.end + l.fn.start ≡ l.start + l.fn.end;
  same : around l.items l.start l.end ≡ around l.fn.items l.fn.start l.fn.end;
}

abbrev pub decreases-on : goal.decreases-on
decreases-on l = l.at - l.start
