-- The operations that only compute.
use Rattle.std.specs.Prelude.{ℕ, ◌+◌, ◌*◌, ◌==◌, nat_lt, Bool, not, ◌&&◌, List, [], ◌∷◌, Option, Some, None, ℤ, pos, ◌+ℤ◌, ◌*ℤ◌, int_lt, int_le, if◌then◌else◌}
use Rattle.std.specs.Ordering.{int_eq}
use Rattle.number_model.specs.Numbers.{unsigned, signed, wrapped}
use Rattle.number_model.specs.Answers.{Answer, Gives, Outside, and_then, with_answer, undefined_if}
use Rattle.number_model.specs.Arithmetic.{Binary, binary, Comparison, compares, Resize, resize, bit}
use Rattle.operation_model.specs.Values.{Value, Integer, Pointer, Place, number, place_of, part_at, with_part, size_path, stride_path, offset_path, aligned_path}

pub data Pure : Type 0 where
  -- a value that is known beforehand
  Known : Value → Pure
  -- an operation of two integers of this width
  TwoNumbers : Binary → ℕ → Pure
  -- a comparison of two integers of this width
  Compares : Comparison → ℕ → Pure
  -- an integer of this width as one of another
  Resizes : Resize → ℕ → Pure
  -- the second or the third operand, by the first
  Selects : Pure
  -- the operand itself
  Moves : Pure
  -- the part at a path
  TakesPart : List ℕ → Pure
  -- the first operand with the second at a path
  PutsPart : List ℕ → Pure
  -- a pointer moved on by as many elements of this number of bytes
  MovesPointer : ℕ → Pure
  -- a memref whose sizes are these wherever one is fixed; integers of sizes have this width
  HasSizes : ℕ → List (Option ℕ) → Pure
  -- a size of a memref of this rank; integers of sizes have this width
  TakesSize : ℕ → ℕ → Pure

-- one result
abbrev pub one : Value → List Value
one v = v ∷ []

abbrev pub integer : ℕ → List Value
integer n = Integer n ∷ []

abbrev pub on_two : (ℕ → ℕ → Answer ℕ) → Value → Value → Answer (List Value)
on_two f x y = and_then (number x) (λ a. and_then (number y) (λ b. with_answer integer (f a b)))

-- whether an integer of one bit is 1
abbrev pub is_set : ℕ → Bool
is_set n = unsigned 1 n == 1

-- a truth value that is looked at
abbrev pub truth : Value → Answer Bool
truth v = with_answer is_set (number v)

abbrev pub select : Value → Value → Value → Answer (List Value)
select c x y = with_answer (λ first. one (if first then x else y)) (truth c)

-- a place moved on by so many bytes, modulo 2^64
abbrev pub moved_on : ℤ → Place → Value
moved_on bytes p = Pointer p.buffer (wrapped 64 (pos p.offset +ℤ bytes))

abbrev pub move_pointer : ℕ → Value → Value → Answer (List Value)
move_pointer size x y = and_then (place_of x) (λ p. with_answer (λ n. one (moved_on (signed 64 n *ℤ pos size) p)) (number y))

-- undefined where a size is not the one that is fixed there
abbrev pub check_size : ℕ → ℕ → ℕ → Value → Answer (List Value) → Answer (List Value)
check_size bits n i m answer =
    and_then (part_at (size_path i) m) (λ size. and_then (number size) (λ a. undefined_if (not (int_eq (signed bits a) (pos n))) answer))

abbrev pub check_sizes : ℕ → List (Option ℕ) → ℕ → Value → Answer (List Value)
check_sizes bits [] i m = Gives (one m)
check_sizes bits (None ∷ fixed) i m = check_sizes bits fixed (i + 1) m
check_sizes bits (Some n ∷ fixed) i m = check_size bits n i m (check_sizes bits fixed (i + 1) m)

-- a size moves as it is: it may be one that was never set
abbrev pub take_size : ℕ → ℕ → Value → Value → Answer (List Value)
take_size bits rank m x =
    and_then (number x) (λ i. undefined_if (not (nat_lt (unsigned bits i) rank)) (with_answer one (part_at (size_path (unsigned bits i)) m)))

-- what an operation that only computes gives of its operands
abbrev pub gives : Pure → List Value → Answer (List Value)
gives (Known v) xs = Gives (one v)
gives (TwoNumbers o w) (x ∷ y ∷ []) = on_two (binary o w) x y
gives (Compares c w) (x ∷ y ∷ []) = on_two (λ a b. Gives (bit (compares c w a b))) x y
gives (Resizes r w) (x ∷ []) = and_then (number x) (λ a. with_answer integer (resize r w a))
gives Selects (c ∷ x ∷ y ∷ []) = select c x y
gives Moves (x ∷ []) = Gives (one x)
gives (TakesPart path) (x ∷ []) = with_answer one (part_at path x)
gives (PutsPart path) (x ∷ y ∷ []) = with_answer one (with_part path y x)
gives (MovesPointer size) (x ∷ y ∷ []) = move_pointer size x y
gives (HasSizes bits fixed) (x ∷ []) = check_sizes bits fixed 0 x
gives (TakesSize bits rank) (x ∷ y ∷ []) = take_size bits rank x y
gives _ _ = Outside

-- Elements of a memref

-- whether an index is from 0 to the size less 1, both as signed numbers
abbrev pub is_index : ℕ → ℕ → ℕ → Bool
is_index bits i size = int_le (pos 0) (signed bits i) && int_lt (signed bits i) (signed bits size)

-- the sum on with an index times its stride, undefined where the index is none
abbrev pub add_index : ℕ → ℕ → ℕ → ℕ → ℕ → Answer ℕ
add_index bits sum i size stride = undefined_if (not (is_index bits i size)) (Gives (sum + i * stride))

-- the sum on with the index of the k-th dimension
abbrev pub with_index : ℕ → Value → ℕ → ℕ → Value → Answer ℕ
with_index bits m k sum x =
    and_then (number x) (λ i.
    and_then (part_at (size_path k) m) (λ s. and_then (number s) (λ size.
    and_then (part_at (stride_path k) m) (λ t. and_then (number t) (λ stride. add_index bits sum i size stride)))))

-- the sum of each index times its stride, from the k-th dimension on
abbrev pub indexed : ℕ → Value → ℕ → ℕ → List Value → Answer ℕ
indexed bits m k sum [] = Gives sum
indexed bits m k sum (x ∷ xs) = and_then (with_index bits m k sum x) (λ next. indexed bits m (k + 1) next xs)

-- the place of an element: the aligned pointer moved on by the elements of this number of bytes that the offset and the indices count,
-- which are a signed number
abbrev pub element_place : ℕ → ℕ → Value → List Value → Answer Value
element_place bits size m xs =
    and_then (part_at aligned_path m) (λ p. and_then (place_of p) (λ place.
    and_then (part_at offset_path m) (λ o. and_then (number o) (λ offset.
    with_answer (λ sum. moved_on (signed bits sum *ℤ pos size) place) (indexed bits m 0 offset xs)))))
