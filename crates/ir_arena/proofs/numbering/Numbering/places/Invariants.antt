use Rattle.std.proofs.Common.{take}
use Rattle.std.specs.List.{AllZip}
use Rattle.ir_arena.specs.Building.{Names}
use Rattle.ir_arena.proofs.numbering.Numbering.places.Given as goal

abbrev pub invariant-loop-number : goal.invariant-loop-number
invariant-loop-number l = AllZip (Names l.self) l.places (take l.number-index l.numbers)
