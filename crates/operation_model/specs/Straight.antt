-- What each operation without regions does.
use Rattle.std.specs.Prelude.{ℕ, ◌+◌, ◌*◌, ◌%◌, ◌^◌, ◌-◌, ◌==◌, nat_lt, nat_le, Bool, true, false, not, ◌&&◌, List, [], ◌∷◌, length, take, drop, Option, Some, None, if◌then◌else◌}
use Rattle.std.specs.List.{list_any}
use Rattle.number_model.specs.Numbers.{unsigned}
use Rattle.number_model.specs.Answers.{Answer, Gives, Outside, and_then, with_answer, undefined_if}
use Rattle.operation_model.specs.Values.{Value, Integer, place_of, number, part_at, allocated_path, descriptor}
use Rattle.operation_model.specs.Pures.{gives, truth, element_place}
use Rattle.operation_model.specs.Doings.{Doing, Ends, Asks, Calls, Jumps, Returns, on}
use Rattle.operation_model.specs.Doings.{Doing as doing}
use Rattle.operation_model.specs.Doings.{Question as question}
use Rattle.operation_model.specs.Calling.{spread, packed, unpacked}
use Rattle.operation_model.specs.Forms.{Form, Layout, Computes, Branch, BranchOn, Call, Return, Load, Store, Allocate, AllocateAligned, Free, NewMemref, EndMemref, LoadElement, StoreElement}

-- the number of bytes of an integer of this width: the least of 1, 2, 4 and 8 that holds it
abbrev pub byte_size : ℕ → ℕ
byte_size w = if nat_le w 8 then 1 else (if nat_le w 16 then 2 else (if nat_le w 32 then 4 else 8))

-- Branches and returns

-- to the first successor where the condition holds, else to the second, each with its own operands
abbrev pub branch_on : ℕ → ℕ → ℕ → ℕ → List Value → Bool → Doing
branch_on first second a b xs true = if length xs == a + b then Jumps first (take a xs) else doing.Outside
branch_on first second a b xs false = if length xs == a + b then Jumps second (drop a xs) else doing.Outside

-- Memory

abbrev pub load : ℕ → Value → Doing
load w p = on (place_of p) (λ place. Asks (question.Load w place) Ends)

abbrev pub store : ℕ → Value → Value → Doing
store w x p = on (number x) (λ n. on (place_of p) (λ place. Asks (question.Store w n place) Ends))

abbrev pub allocate : Value → Doing
allocate x = on (number x) (λ n. Asks (question.Allocate 1 (unsigned 64 n)) Ends)

-- the alignments: the powers of two from 1 to 4096
abbrev pub alignments : List ℕ
alignments = 1 ∷ 2 ∷ 4 ∷ 8 ∷ 16 ∷ 32 ∷ 64 ∷ 128 ∷ 256 ∷ 512 ∷ 1024 ∷ 2048 ∷ 4096 ∷ []

abbrev pub is_alignment : ℕ → Bool
is_alignment n = list_any (λ k. k == n) alignments

-- undefined where the alignment is none, or the size no multiple of it
abbrev pub allocate_at : ℕ → ℕ → Doing
allocate_at alignment size =
    if is_alignment alignment && (size % alignment == 0) then Asks (question.Allocate alignment size) Ends else doing.Undefined

abbrev pub allocate_aligned : Value → Value → Doing
allocate_aligned x y = on (number x) (λ alignment. on (number y) (λ size. allocate_at (unsigned 64 alignment) (unsigned 64 size)))

abbrev pub free : Value → Doing
free p = on (place_of p) (λ place. Asks (question.Free place) Ends)

-- New memrefs

-- a size as a value and as the number that it is
pub record Size : Type 0 where
  pub value : Value
  pub number : ℕ

-- undefined where a size is no signed number of its width that is 0 or more
abbrev pub sized : ℕ → Value → ℕ → Answer (List Size) → Answer (List Size)
sized bits v n rest = undefined_if (not (nat_lt n (2 ^ (bits - 1)))) (with_answer (λ sizes. record { value = v; number = n } ∷ sizes) rest)

-- the sizes of a new memref, each fixed or the next operand
abbrev pub sizes_from : ℕ → List (Option ℕ) → List Value → Answer (List Size)
sizes_from bits [] [] = Gives []
sizes_from bits (Some n ∷ fixed) xs = sized bits (Integer n) n (sizes_from bits fixed xs)
sizes_from bits (None ∷ fixed) (x ∷ xs) = and_then (number x) (λ n. sized bits x (unsigned bits n) (sizes_from bits fixed xs))
sizes_from bits _ _ = Outside

-- the number of elements
abbrev pub elements : List Size → ℕ
elements [] = 1
elements (s ∷ ss) = s.number * elements ss

-- each stride is the product of the later sizes, modulo 2 to the width
abbrev pub strides : ℕ → List Size → List Value
strides bits [] = []
strides bits (s ∷ ss) = Integer (unsigned bits (elements ss)) ∷ strides bits ss

abbrev pub size_values : List Size → List Value
size_values [] = []
size_values (s ∷ ss) = s.value ∷ size_values ss

-- the memref at the pointer that was allocated
abbrev pub memref_at : ℕ → List Size → List Value → Doing
memref_at bits sizes (p ∷ []) = Ends (descriptor (length sizes) p p (Integer 0) (size_values sizes) (strides bits sizes) ∷ [])
memref_at bits sizes _ = doing.Outside

abbrev pub new_memref : Layout → List Value → Doing
new_memref l xs =
    on (sizes_from l.bits l.sizes xs) (λ sizes. Asks (question.Allocate l.alignment (elements sizes * byte_size l.element)) (memref_at l.bits sizes))

abbrev pub load_element : ℕ → ℕ → Value → List Value → Doing
load_element bits w m xs = on (element_place bits (byte_size w) m xs) (load w)

abbrev pub store_element : ℕ → ℕ → Value → Value → List Value → Doing
store_element bits w x m xs = on (element_place bits (byte_size w) m xs) (store w x)

-- what an operation without regions does, by its form, the labels of its successors and its operands
abbrev pub does : Form → List ℕ → List Value → Doing
does (Computes p) ls xs = on (gives p xs) Ends
does Branch (l ∷ []) xs = Jumps l xs
does (BranchOn a b) (first ∷ second ∷ []) (c ∷ xs) = on (truth c) (branch_on first second a b xs)
does (Call f shapes packing) ls xs = on (spread shapes xs) (λ ys. Calls f ys (λ answer. on (unpacked packing answer) Ends))
does (Return packing) ls xs = Returns (packed packing xs)
does (Load w) ls (p ∷ []) = load w p
does (Store w) ls (x ∷ p ∷ []) = store w x p
does Allocate ls (n ∷ []) = allocate n
does AllocateAligned ls (alignment ∷ n ∷ []) = allocate_aligned alignment n
does Free ls (p ∷ []) = free p
does (NewMemref l) ls xs = new_memref l xs
does EndMemref ls (m ∷ []) = on (part_at allocated_path m) free
does (LoadElement bits w) ls (m ∷ xs) = load_element bits w m xs
does (StoreElement bits w) ls (x ∷ m ∷ xs) = store_element bits w x m xs
does _ _ _ = doing.Outside
