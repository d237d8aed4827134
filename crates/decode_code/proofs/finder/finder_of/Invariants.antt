use Rattle.std.proofs.Common.{◌-◌, length, drop}
use Rattle.decode_code.specs.Finding.{Stands}
use Rattle.decode_code.proofs.finder.finder_of.Given as goal

abbrev pub invariant-loop-k : goal.invariant-loop-k
invariant-loop-k l = Stands l.by_name (drop (length l.functions - l.k) l.functions)
