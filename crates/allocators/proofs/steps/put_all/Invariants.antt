use Rattle.std.proofs.Common.{◌≡◌, ◌+◌, ◌++◌, length, take}
use Rattle.allocators.proofs.steps.put_all.Given as goal

abbrev pub invariant-each : goal.invariant-each
invariant-each l = record {
  taken : l.funcs ++ l.more ≡ l.initial.funcs ++ l.initial.more;
  front : take l.count l.funcs ≡ l.initial.funcs;
  left : length l.more + l._turn ≡ l.turns;
}
