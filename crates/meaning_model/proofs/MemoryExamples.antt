-- Worked examples of memory.
use Rattle.std.proofs.Common.{◌≡◌, ℕ, List, [], ◌∷◌, None, Some, refl}
use Rattle.std.specs.Prelude.{ℤ, pos, negsuc, codes}
use Rattle.number_model.specs.Numbers.{wrapped}
use Rattle.operation_model.specs.Values.{Integer}
use Rattle.operation_model.specs.Pures.{Known, PutsPart, TakesSize, MovesPointer}
use Rattle.operation_model.specs.Calling.{Together}
use Rattle.operation_model.specs.Forms.{Layout, Computes, Call, Return, Load, Store, Allocate, AllocateAligned, Free, NewMemref, EndMemref, LoadElement, StoreElement}
use Rattle.form_model.specs.Codes.{Ops, OpsEnd, Block, BlocksEnd, Function}
use Rattle.machine_model.specs.Worlds.{Undefined, NoRoom}
use Rattle.meaning_model.specs.Buffers.{needed}
use Rattle.meaning_model.specs.Meaning.{Done, Stops, need_of}
use Rattle.meaning_model.proofs.Examples.{op, function, returns, by_s, s_end, machine_end, l_end}

-- an integer of a width under a number
abbrev known : ℕ → ℕ → ℤ → Ops → Ops
known w r z rest = op (Computes (Known (Integer (wrapped w z)))) (r ∷ []) [] rest

-- memref<?xi32> with indices of 64 bits
abbrev vector : Layout
vector = record { bits = 64; sizes = None ∷ []; element = 32; alignment = 1 }

-- a new vector of as many elements as the argument says, under 1, and the index 0 under 2
abbrev with_vector : Ops → List Function
with_vector rest = function (64 ∷ []) (0 ∷ []) (op (NewMemref vector) (1 ∷ []) (0 ∷ []) (known 64 2 (pos 0) rest)) ∷ []

abbrev size : List Function
size = with_vector (op (Computes (TakesSize 64 1)) (3 ∷ []) (1 ∷ 2 ∷ []) (returns (3 ∷ [])))

size_is_zero : s_end size (pos 0 ∷ []) 4 ≡ Done (pos 0 ∷ [])
size_is_zero = refl

size_is_negative : s_end size (negsuc 0 ∷ []) 4 ≡ Stops Undefined
size_is_negative = refl

-- each allocation needs 16 bytes at least
least_need : need_of (by_s size (pos 0 ∷ []) 4) ≡ 16
least_need = refl

need_of_five : need_of (by_s size (pos 5 ∷ []) 4) ≡ 32
need_of_five = refl

need_with_alignment : needed 64 65 ≡ 192
need_with_alignment = refl

never_stored : s_end (with_vector (op (LoadElement 64 32) (3 ∷ []) (1 ∷ 2 ∷ []) (returns (3 ∷ [])))) (pos 1 ∷ []) 4 ≡ Stops Undefined
never_stored = refl

abbrev stored : ℤ → List Function
stored i =
    with_vector (known 32 3 (negsuc 6) (known 64 4 i (op (StoreElement 64 32) [] (3 ∷ 1 ∷ 4 ∷ []) (op (LoadElement 64 32) (5 ∷ []) (1 ∷ 4 ∷ []) (returns (5 ∷ []))))))

stored_is_loaded : s_end (stored (pos 2)) (pos 3 ∷ []) 7 ≡ Done (negsuc 6 ∷ [])
stored_is_loaded = refl

index_is_the_size : s_end (stored (pos 3)) (pos 3 ∷ []) 7 ≡ Stops Undefined
index_is_the_size = refl

index_is_negative : s_end (stored (negsuc 0)) (pos 3 ∷ []) 7 ≡ Stops Undefined
index_is_negative = refl

freed_twice : s_end (with_vector (op EndMemref [] (1 ∷ []) (op EndMemref [] (1 ∷ []) (returns (2 ∷ []))))) (pos 3 ∷ []) 5 ≡ Stops Undefined
freed_twice = refl

freed_once : s_end (with_vector (op EndMemref [] (1 ∷ []) (returns (2 ∷ [])))) (pos 3 ∷ []) 4 ≡ Done (pos 0 ∷ [])
freed_once = refl

loaded_when_dead : s_end (with_vector (known 32 3 (pos 1) (op (StoreElement 64 32) [] (3 ∷ 1 ∷ 2 ∷ []) (op EndMemref [] (1 ∷ []) (op (LoadElement 64 32) (5 ∷ []) (1 ∷ 2 ∷ []) (returns (5 ∷ []))))))) (pos 3 ∷ []) 9 ≡ Stops Undefined
loaded_when_dead = refl

-- Pointers, by S and by L

-- 4 bytes at 1, and the place behind them at 3
abbrev with_bytes : Ops → List Function
with_bytes rest = function [] [] (known 64 0 (pos 4) (op Allocate (1 ∷ []) (0 ∷ []) (known 64 2 (pos 1) (op (Computes (MovesPointer 4)) (3 ∷ []) (1 ∷ 2 ∷ []) (known 32 4 (negsuc 1) rest))))) ∷ []

abbrev put_and_take : List Function
put_and_take = with_bytes (op (Store 32) [] (4 ∷ 1 ∷ []) (op (Load 32) (5 ∷ []) (1 ∷ []) (op Free [] (1 ∷ []) (returns (5 ∷ [])))))

put_and_taken : s_end put_and_take [] 9 ≡ Done (negsuc 1 ∷ [])
put_and_taken = refl

put_and_taken_in_cells : l_end put_and_take [] 9 ≡ Done (negsuc 1 ∷ [])
put_and_taken_in_cells = refl

-- the low byte comes first
abbrev low_byte : List Function
low_byte = with_bytes (op (Store 32) [] (4 ∷ 1 ∷ []) (op (Load 8) (5 ∷ []) (1 ∷ []) (returns (5 ∷ []))))

low_byte_is_first : s_end low_byte [] 8 ≡ Done (pos 254 ∷ [])
low_byte_is_first = refl

-- a byte has bits above the one of `i1`
bits_above : s_end (with_bytes (op (Store 32) [] (4 ∷ 1 ∷ []) (op (Load 1) (5 ∷ []) (1 ∷ []) (returns (5 ∷ []))))) [] 8 ≡ Stops Undefined
bits_above = refl

put_behind : s_end (with_bytes (op (Store 8) [] (4 ∷ 3 ∷ []) (returns (4 ∷ [])))) [] 8 ≡ Stops Undefined
put_behind = refl

put_behind_in_cells : l_end (with_bytes (op (Store 8) [] (4 ∷ 3 ∷ []) (returns (4 ∷ [])))) [] 8 ≡ Stops Undefined
put_behind_in_cells = refl

taken_before : l_end (with_bytes (op (Load 32) (5 ∷ []) (1 ∷ []) (returns (5 ∷ [])))) [] 8 ≡ Stops Undefined
taken_before = refl

freed_behind : s_end (with_bytes (op Free [] (3 ∷ []) (returns (4 ∷ [])))) [] 8 ≡ Stops Undefined
freed_behind = refl

freed_twice_in_cells : l_end (with_bytes (op Free [] (1 ∷ []) (op Free [] (1 ∷ []) (returns (4 ∷ []))))) [] 8 ≡ Stops Undefined
freed_twice_in_cells = refl

-- so many bytes in a memory of 256 cells
abbrev so_many : ℤ → List Function
so_many n = function [] [] (known 64 0 n (op Allocate (1 ∷ []) (0 ∷ []) (known 32 2 (pos 1) (returns (2 ∷ []))))) ∷ []

exactly_fits : l_end (so_many (pos 256)) [] 4 ≡ Done (pos 1 ∷ [])
exactly_fits = refl

does_not_fit : l_end (so_many (pos 257)) [] 4 ≡ Stops NoRoom
does_not_fit = refl

always_fits : s_end (so_many (pos 257)) [] 4 ≡ Done (pos 1 ∷ [])
always_fits = refl

-- an alignment and a size
abbrev aligned : ℤ → ℤ → List Function
aligned a n = function [] [] (known 64 0 a (known 64 1 n (op AllocateAligned (2 ∷ []) (0 ∷ 1 ∷ []) (known 32 3 (pos 1) (returns (3 ∷ [])))))) ∷ []

is_aligned : l_end (aligned (pos 64) (pos 128)) [] 5 ≡ Done (pos 1 ∷ [])
is_aligned = refl

no_power : s_end (aligned (pos 48) (pos 96)) [] 5 ≡ Stops Undefined
no_power = refl

no_multiple : s_end (aligned (pos 64) (pos 96)) [] 5 ≡ Stops Undefined
no_multiple = refl

alignment_too_great : l_end (aligned (pos 8192) (pos 8192)) [] 5 ≡ Stops Undefined
alignment_too_great = refl

alignment_of_zero : s_end (aligned (pos 0) (pos 0)) [] 5 ≡ Stops Undefined
alignment_of_zero = refl

-- A memref is handed over by its fields, and two results in a struct

-- `g` takes a vector and an index, and gives the index and the vector
abbrev handed_over : List Function
handed_over =
    function (64 ∷ []) (0 ∷ [])
    (op (NewMemref vector) (1 ∷ []) (0 ∷ []) (known 64 2 (pos 0)
    (op (Call (codes "g") (Some 1 ∷ None ∷ []) Together) (3 ∷ 4 ∷ []) (1 ∷ 2 ∷ [])
    (op (Computes (TakesSize 64 1)) (5 ∷ []) (4 ∷ 3 ∷ []) (returns (5 ∷ [])))))) ∷
    record {
      name = codes "g";
      face = record { inputs = None; outputs = None; packing = Together };
      shapes = Some 1 ∷ None ∷ [];
      body = Block 0 (0 ∷ 1 ∷ []) (op (Return Together) [] (1 ∷ 0 ∷ []) OpsEnd) BlocksEnd;
    } ∷ []

handed_over_and_back : s_end handed_over (pos 9 ∷ []) 6 ≡ Done (pos 9 ∷ [])
handed_over_and_back = refl

handed_over_by_the_machine : machine_end handed_over (pos 9 ∷ []) 6 ≡ Done (pos 9 ∷ [])
handed_over_by_the_machine = refl

-- a store leaves the bytes behind it
abbrev neighbours : List Function
neighbours =
    with_vector (known 32 3 (negsuc 6) (known 64 4 (pos 1) (op (StoreElement 64 32) [] (3 ∷ 1 ∷ 4 ∷ []) (known 32 6 (pos 1) (op (StoreElement 64 32) [] (6 ∷ 1 ∷ 2 ∷ [])
    (op (LoadElement 64 32) (5 ∷ []) (1 ∷ 4 ∷ []) (returns (5 ∷ []))))))))

neighbour_stays : s_end neighbours (pos 3 ∷ []) 9 ≡ Done (negsuc 6 ∷ [])
neighbour_stays = refl

-- behind 16 bytes the next multiple of 64 is taken
abbrev behind_a_byte : List Function
behind_a_byte =
    function [] [] (known 64 0 (pos 1) (op Allocate (1 ∷ []) (0 ∷ []) (known 64 2 (pos 64) (known 64 3 (pos 192)
    (op AllocateAligned (4 ∷ []) (2 ∷ 3 ∷ []) (op Allocate (5 ∷ []) (0 ∷ []) (known 32 6 (pos 1) (returns (6 ∷ []))))))))) ∷ []

alignment_takes_room : l_end behind_a_byte [] 8 ≡ Stops NoRoom
alignment_takes_room = refl

-- a memref whose offset is 1: an index below 0 is none, though its place lies in the buffer
abbrev with_offset : ℤ → List Function
with_offset i =
    with_vector (known 32 3 (negsuc 6) (known 64 4 (pos 1) (op (StoreElement 64 32) [] (3 ∷ 1 ∷ 4 ∷ []) (op (Computes (PutsPart (2 ∷ []))) (6 ∷ []) (1 ∷ 4 ∷ [])
    (known 64 7 i (known 32 8 (pos 8) (op (StoreElement 64 32) [] (8 ∷ 6 ∷ 7 ∷ []) (op (LoadElement 64 32) (5 ∷ []) (1 ∷ 4 ∷ []) (returns (5 ∷ []))))))))))

index_below_zero : s_end (with_offset (negsuc 0)) (pos 3 ∷ []) 11 ≡ Stops Undefined
index_below_zero = refl

offset_is_added : s_end (with_offset (pos 0)) (pos 3 ∷ []) 11 ≡ Done (pos 8 ∷ [])
offset_is_added = refl
