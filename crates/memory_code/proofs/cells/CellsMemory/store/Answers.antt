use Rattle.std.proofs.Common.{refl}
use Rattle.memory_code.proofs.CellLaws.{store_refused, store_done}
use Rattle.memory_code.proofs.cells.CellsMemory.store.Goals as goal

pub returns-then-not-is_covered : goal.returns-then-not-is_covered
returns-then-not-is_covered c = λ s is.
    store_refused c.args.self.now s is c.args.w.bits c.args.n c.byte_size-count.result c.args.p.offset c.is_covered.result c.byte_size-count.ensures.value c.is_covered.ensures c.if-not-is_covered.true

pub returns : goal.returns
returns c = λ s is.
    store_done c.args.self.now s is c.args.w.bits c.args.n c.unsigned.result c.byte_size-count.result c.args.p.offset c.is_covered.result
    (record { room = c.args.self.now.room; bytes = c.put_number.new.map; allocations = c.args.self.now.allocations; free = c.args.self.now.free })
    c.byte_size-count.ensures.value c.unsigned.ensures c.is_covered.ensures c.if-not-is_covered.false c.in_ok-put_number.ensures refl refl refl
