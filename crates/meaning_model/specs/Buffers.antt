-- The memory of the structured meaning: buffers, each a finite map from places to bytes, and the memory that they need.
use Rattle.std.specs.Prelude.{ℕ, zero, suc, ◌+◌, ◌*◌, ◌/◌, ◌%◌, ◌^◌, ◌==◌, nat_lt, nat_le, max, Bool, true, false, ◌&&◌, List, [], ◌∷◌, ◌++◌, length, Option, Some, None, if◌then◌else◌}
use Rattle.std.specs.Int.{div_ceil}
use Rattle.operation_model.specs.Values.{Integer, Pointer, Place}
use Rattle.operation_model.specs.Doings.{Question, Load, Store, Allocate, Free}
use Rattle.operation_model.specs.Straight.{byte_size}
use Rattle.machine_model.specs.Worlds.{Undefined, Reply, Answers, Refuses}

-- Bytes

-- the bytes that are set, by their places, the newest first
abbrev pub Bytes : Type 0
Bytes = List (ℕ × ℕ)

abbrev pub byte_at : ℕ → Bytes → Option ℕ
byte_at place [] = None
byte_at place (b ∷ bs) = if b.0 == place then Some b.1 else byte_at place bs

-- the low byte before the number that the higher ones make
abbrev pub little_end : Option ℕ → Option ℕ → Option ℕ
little_end (Some low) (Some high) = Some (low + 256 * high)
little_end _ _ = None

-- the number of so many bytes from a place on, the lowest first. None where one isn't set.
abbrev pub bytes_from : ℕ → ℕ → Bytes → Option ℕ
bytes_from zero place bs = Some 0
bytes_from (suc count) place bs = little_end (byte_at place bs) (bytes_from count (place + 1) bs)

-- a number put to so many bytes from a place on, the lowest first
abbrev pub put_bytes : ℕ → ℕ → ℕ → Bytes → Bytes
put_bytes zero place n bs = bs
put_bytes (suc count) place n bs = put_bytes count (place + 1) (n / 256) ((place, n % 256) ∷ bs)

-- an integer of the width: undefined where a byte isn't set, or a bit above those of the width is
abbrev pub loaded : {State : Type 0} → ℕ → Option ℕ → State → Reply State
loaded w None s = Refuses Undefined
loaded w (Some n) s = if nat_lt n (2 ^ w) then Answers (Integer n ∷ []) s else Refuses Undefined

-- Buffers

pub record Buffer : Type 0 where
  pub size : ℕ
  pub is_live : Bool
  pub bytes : Bytes

-- the buffers by their numbers, and the memory that they need
pub record Heap : Type 0 where
  pub buffers : List Buffer
  pub need : ℕ

abbrev pub no_heap : Heap
no_heap = record { buffers = []; need = 0 }

-- whether so many bytes from an offset on lie in a live buffer
abbrev pub holds : ℕ → ℕ → Buffer → Bool
holds count offset b = b.is_live && nat_le (offset + count) b.size

abbrev pub buffer_at : ℕ → List Buffer → Option Buffer
buffer_at i [] = None
buffer_at zero (b ∷ bs) = Some b
buffer_at (suc i) (b ∷ bs) = buffer_at i bs

abbrev pub with_buffer : ℕ → Buffer → List Buffer → List Buffer
with_buffer i new [] = []
with_buffer zero new (b ∷ bs) = new ∷ bs
with_buffer (suc i) new (b ∷ bs) = b ∷ with_buffer i new bs

abbrev pub changed : ℕ → Buffer → Heap → Heap
changed i b h = record { buffers = with_buffer i b h.buffers; need = h.need }

-- n rounded up to a positive multiple
abbrev pub positive_multiple : ℕ → ℕ → ℕ
positive_multiple unit n = unit * max 1 (div_ceil n unit)

-- the memory that an allocation needs: its size rounded up to a positive multiple of 16, or of the alignment where this is above 16,
-- and then the alignment besides
abbrev pub needed : ℕ → ℕ → ℕ
needed alignment n = if nat_le alignment 16 then positive_multiple 16 n else positive_multiple alignment n + alignment

abbrev pub load_from : ℕ → ℕ → Option Buffer → Heap → Reply Heap
load_from w offset None h = Refuses Undefined
load_from w offset (Some b) h =
    if holds (byte_size w) offset b then loaded w (bytes_from (byte_size w) offset b.bytes) h else Refuses Undefined

abbrev pub with_bytes : Buffer → Bytes → Buffer
with_bytes b bytes = record { size = b.size; is_live = b.is_live; bytes = bytes }

abbrev pub store_to : ℕ → ℕ → Place → Option Buffer → Heap → Reply Heap
store_to w n p None h = Refuses Undefined
store_to w n p (Some b) h =
    if holds (byte_size w) p.offset b then Answers [] (changed p.buffer (with_bytes b (put_bytes (byte_size w) p.offset (n % 2 ^ w) b.bytes)) h)
    else Refuses Undefined

abbrev pub ended : Buffer → Buffer
ended b = record { size = b.size; is_live = false; bytes = b.bytes }

-- the place must be the start of a live buffer
abbrev pub free_at : Place → Option Buffer → Heap → Reply Heap
free_at p None h = Refuses Undefined
free_at p (Some b) h = if b.is_live && (p.offset == 0) then Answers [] (changed p.buffer (ended b) h) else Refuses Undefined

abbrev pub new_buffer : ℕ → Buffer
new_buffer n = record { size = n; is_live = true; bytes = [] }

-- a new buffer has the next number, and none of its bytes is set
abbrev pub allocated : ℕ → ℕ → Heap → Reply Heap
allocated alignment n h =
    Answers (Pointer (length h.buffers) 0 ∷ []) (record { buffers = h.buffers ++ new_buffer n ∷ []; need = h.need + needed alignment n })

abbrev pub ask_heap : Question → Heap → Reply Heap
ask_heap (Load w p) h = load_from w p.offset (buffer_at p.buffer h.buffers) h
ask_heap (Store w n p) h = store_to w n p (buffer_at p.buffer h.buffers) h
ask_heap (Allocate alignment n) h = allocated alignment n h
ask_heap (Free p) h = free_at p (buffer_at p.buffer h.buffers) h
