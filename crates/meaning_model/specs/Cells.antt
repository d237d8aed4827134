-- The memory of the llvm meaning: numbered cells, each unset or a byte. A pointer is the number of a cell: its buffer is always 0.
use Rattle.std.specs.Prelude.{ℕ, ◌+◌, ◌*◌, ◌^◌, ◌%◌, ◌==◌, nat_le, Bool, true, false, ◌&&◌, List, [], ◌∷◌, Option, Some, None, if◌then◌else◌}
use Rattle.std.specs.Int.{div_ceil}
use Rattle.operation_model.specs.Values.{Pointer}
use Rattle.operation_model.specs.Doings.{Question, Load, Store, Allocate, Free}
use Rattle.operation_model.specs.Straight.{byte_size}
use Rattle.machine_model.specs.Worlds.{Undefined, NoRoom, Reply, Answers, Refuses}
use Rattle.meaning_model.specs.Buffers.{Bytes, bytes_from, put_bytes, loaded, positive_multiple}

-- an allocation: its first cell, its number of cells, and whether it is live
pub record Allocation : Type 0 where
  pub start : ℕ
  pub size : ℕ
  pub is_live : Bool

-- so many cells of which some are set, the allocations, the newest first, and the first free cell
pub record Cells : Type 0 where
  pub room : ℕ
  pub bytes : Bytes
  pub allocations : List Allocation
  pub free : ℕ

abbrev pub no_cells : ℕ → Cells
no_cells room = record { room = room; bytes = []; allocations = []; free = 0 }

-- whether so many cells from a number on lie in a live allocation
abbrev pub covers : ℕ → ℕ → Allocation → Bool
covers count start a = a.is_live && nat_le a.start start && nat_le (start + count) (a.start + a.size)

abbrev pub is_covered : ℕ → ℕ → List Allocation → Bool
is_covered count start [] = false
is_covered count start (a ∷ rest) = if covers count start a then true else is_covered count start rest

abbrev pub load_cells : ℕ → ℕ → Cells → Reply Cells
load_cells w start c =
    if is_covered (byte_size w) start c.allocations then loaded w (bytes_from (byte_size w) start c.bytes) c else Refuses Undefined

abbrev pub with_cells : Bytes → Cells → Cells
with_cells bytes c = record { room = c.room; bytes = bytes; allocations = c.allocations; free = c.free }

abbrev pub store_cells : ℕ → ℕ → ℕ → Cells → Reply Cells
store_cells w n start c =
    if is_covered (byte_size w) start c.allocations then Answers [] (with_cells (put_bytes (byte_size w) start (n % 2 ^ w) c.bytes) c)
    else Refuses Undefined

-- an allocation of so many cells from a number on. The first free cell moves on by the size rounded up to a positive multiple of 16,
-- and there is no room where it passes the last cell. No cell is used again.
abbrev pub placed : ℕ → ℕ → Cells → Reply Cells
placed start n c =
    if nat_le (start + positive_multiple 16 n) c.room then
    Answers (Pointer 0 start ∷ []) (record {
      room = c.room;
      bytes = c.bytes;
      allocations = record { start = start; size = n; is_live = true } ∷ c.allocations;
      free = start + positive_multiple 16 n;
    })
    else Refuses NoRoom

-- the first multiple of the alignment from the first free cell on
abbrev pub aligned : ℕ → ℕ → ℕ
aligned alignment free = alignment * div_ceil free alignment

abbrev pub begins_at : ℕ → Allocation → Bool
begins_at start a = a.is_live && (a.start == start)

abbrev pub ended : Allocation → Allocation
ended a = record { start = a.start; size = a.size; is_live = false }

abbrev pub and_allocation : Allocation → Option (List Allocation) → Option (List Allocation)
and_allocation a None = None
and_allocation a (Some rest) = Some (a ∷ rest)

-- the allocations without the live one that begins there. None where none does.
abbrev pub without : ℕ → List Allocation → Option (List Allocation)
without start [] = None
without start (a ∷ rest) = if begins_at start a then Some (ended a ∷ rest) else and_allocation a (without start rest)

abbrev pub freed : Option (List Allocation) → Cells → Reply Cells
freed None c = Refuses Undefined
freed (Some rest) c = Answers [] (record { room = c.room; bytes = c.bytes; allocations = rest; free = c.free })

abbrev pub ask_cells : Question → Cells → Reply Cells
ask_cells (Load w p) c = load_cells w p.offset c
ask_cells (Store w n p) c = store_cells w n p.offset c
ask_cells (Allocate alignment n) c = placed (aligned alignment c.free) n c
ask_cells (Free p) c = freed (without p.offset c.allocations) c
