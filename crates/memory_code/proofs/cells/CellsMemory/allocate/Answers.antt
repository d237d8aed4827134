use Rattle.std.proofs.Common.{◌+◌, true, refl, arith}
use Rattle.memory_code.proofs.CellLaws.{allocate_done}
use Rattle.memory_code.proofs.cells.CellsMemory.allocate.Goals as goal

pub returns : goal.returns
returns c = λ size capped s is.
    allocate_done c.args.self.now s is c.args.alignment size c.args.n c.aligned-start.result c.rounded.result
    (record { start = c.aligned-start.result; size = c.args.n; is_live = true })
    (record { room = c.args.self.now.room; bytes = c.args.self.now.bytes; allocations = c.push_front.new.self; free = c.aligned-start.result + c.rounded.result })
    capped (omega (arith, c.if-n-self.false)) (omega arith) c.aligned-start.ensures.value c.rounded.ensures.value (omega (arith, c.if-end-self.false))
    c.in_ok-push_front.ensures.items refl refl refl refl
