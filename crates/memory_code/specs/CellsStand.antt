-- Which cells of the definition those of the code stand for.
use Rattle.std.specs.Prelude.{◌≡◌, map}
use Rattle.meaning_model.specs.Cells as model
use Rattle.memory_code.specs.declared.cells.Allocation.{Allocation}
use Rattle.memory_code.specs.declared.cells.Cells.{Cells}
use Rattle.memory_code.specs.Stands.{HoldsBytes}

abbrev pub allocation_of : Allocation → model.Allocation
allocation_of a = record { start = a.start; size = a.size; is_live = a.is_live }

pub record IsCells (c : Cells) (of : model.Cells) : Type 0 where
  pub room : c.room ≡ of.room
  pub bytes : HoldsBytes c.bytes of.bytes
  pub allocations : map allocation_of c.allocations.items ≡ of.allocations
  pub free : c.free ≡ of.free
