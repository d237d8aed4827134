use Rattle.std.proofs.Common.{sym}
use Rattle.memory_code.proofs.CellLaws.{load_covered, load_refused}
use Rattle.memory_code.proofs.cells.CellsMemory.load.Goals as goal

pub returns-then-is_covered : goal.returns-then-is_covered
returns-then-is_covered c = λ s is.
    load_covered c.args.self.now s is c.args.w.bits c.byte_size-count.result c.args.p.offset c.is_covered.result c.in_width.result c.number_from.result c.byte_size-count.ensures.value
    c.is_covered.ensures c.if-is_covered.true c.number_from.ensures.value c.in_width.ensures

pub returns-else-is_covered : goal.returns-else-is_covered
returns-else-is_covered c = λ s is.
    sym (load_refused c.args.self.now s is c.args.w.bits c.byte_size-count.result c.args.p.offset c.is_covered.result c.byte_size-count.ensures.value c.is_covered.ensures c.if-is_covered.false)
