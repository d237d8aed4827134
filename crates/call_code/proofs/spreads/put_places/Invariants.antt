use Rattle.std.proofs.Common.{true}
use Rattle.value_code.specs.Models.{value_of}
use Rattle.call_code.specs.Lists.{places, Puts}
use Rattle.call_code.proofs.spreads.put_places.Given as goal

abbrev pub invariant-loop-i : goal.invariant-loop-i
invariant-loop-i l = Puts true l.initial.all l.all (places l.field l.i) (value_of l.v)
