-- Worked examples of what operations do with their operands.
use Rattle.std.proofs.Common.{◌≡◌, [], ◌∷◌, None, Some, refl}
use Rattle.number_model.specs.Answers.{Gives, Undefined, Outside}
use Rattle.number_model.specs.Arithmetic.{no_flags, Add, Below, Keep}
use Rattle.operation_model.specs.Values.{Value, Integer, Pointer, Unset, together, descriptor}
use Rattle.operation_model.specs.Pures.{TwoNumbers, Compares, Resizes, Selects, Moves, TakesPart, PutsPart, MovesPointer, HasSizes, TakesSize, gives, element_place}
use Rattle.operation_model.specs.Doings.{Jumps, Returns}
use Rattle.operation_model.specs.Doings.{Doing as doing}
use Rattle.operation_model.specs.Calling.{Together, spread, gathered}
use Rattle.operation_model.specs.Forms.{BranchOn, Return}
use Rattle.operation_model.specs.Straight.{does, byte_size}

-- Values

sum : gives (TwoNumbers (Add no_flags) 8) (Integer 255 ∷ Integer 3 ∷ []) ≡ Gives (Integer 2 ∷ [])
sum = refl

sum_with_unset : gives (TwoNumbers (Add no_flags) 8) (Integer 255 ∷ Unset ∷ []) ≡ Undefined
sum_with_unset = refl

sum_with_pointer : gives (TwoNumbers (Add no_flags) 8) (Integer 255 ∷ Pointer 0 0 ∷ []) ≡ Outside
sum_with_pointer = refl

comparison : gives (Compares Below 8) (Integer 255 ∷ Integer 0 ∷ []) ≡ Gives (Integer 1 ∷ [])
comparison = refl

-- the values of a select move, its condition is looked at
select_of_unset : gives Selects (Integer 1 ∷ Unset ∷ Integer 5 ∷ []) ≡ Gives (Unset ∷ [])
select_of_unset = refl

select_by_unset : gives Selects (Unset ∷ Integer 4 ∷ Integer 5 ∷ []) ≡ Undefined
select_by_unset = refl

unset_moves : gives Moves (Unset ∷ []) ≡ Gives (Unset ∷ [])
unset_moves = refl

-- a cast of an index at equal widths looks at it
unset_is_cast : gives (Resizes Keep 64) (Unset ∷ []) ≡ Undefined
unset_is_cast = refl

abbrev pair : Value
pair = together (Integer 7 ∷ together (Unset ∷ Integer 9 ∷ []) ∷ [])

part : gives (TakesPart (1 ∷ 1 ∷ [])) (pair ∷ []) ≡ Gives (Integer 9 ∷ [])
part = refl

other_part : gives (PutsPart (1 ∷ 0 ∷ [])) (pair ∷ Integer 8 ∷ []) ≡ Gives (together (Integer 7 ∷ together (Integer 8 ∷ Integer 9 ∷ []) ∷ []) ∷ [])
other_part = refl

no_part : gives (TakesPart (2 ∷ [])) (pair ∷ []) ≡ Outside
no_part = refl

-- a pointer moves by a signed number of elements, modulo 2^64
pointer_moves_on : gives (MovesPointer 4) (Pointer 3 8 ∷ Integer 2 ∷ []) ≡ Gives (Pointer 3 16 ∷ [])
pointer_moves_on = refl

pointer_moves_back : gives (MovesPointer 4) (Pointer 3 8 ∷ Integer 18446744073709551615 ∷ []) ≡ Gives (Pointer 3 4 ∷ [])
pointer_moves_back = refl

-- Memrefs

-- two rows of three columns, behind an offset of one
abbrev matrix : Value
matrix = descriptor 2 (Pointer 5 0) (Pointer 5 0) (Integer 1) (Integer 2 ∷ Integer 3 ∷ []) (Integer 3 ∷ Integer 1 ∷ [])

place : element_place 64 4 matrix (Integer 1 ∷ Integer 2 ∷ []) ≡ Gives (Pointer 5 24)
place = refl

column_is_too_great : element_place 64 4 matrix (Integer 1 ∷ Integer 3 ∷ []) ≡ Undefined
column_is_too_great = refl

row_is_below_zero : element_place 64 4 matrix (Integer 18446744073709551615 ∷ Integer 2 ∷ []) ≡ Undefined
row_is_below_zero = refl

size : gives (TakesSize 64 2) (matrix ∷ Integer 1 ∷ []) ≡ Gives (Integer 3 ∷ [])
size = refl

no_size : gives (TakesSize 64 2) (matrix ∷ Integer 2 ∷ []) ≡ Undefined
no_size = refl

unset_size_moves : gives (TakesSize 64 1) (descriptor 1 Unset Unset Unset (Unset ∷ []) (Unset ∷ []) ∷ Integer 0 ∷ []) ≡ Gives (Unset ∷ [])
unset_size_moves = refl

same_sizes : gives (HasSizes 64 (Some 2 ∷ None ∷ [])) (matrix ∷ []) ≡ Gives (matrix ∷ [])
same_sizes = refl

another_size : gives (HasSizes 64 (Some 2 ∷ Some 4 ∷ [])) (matrix ∷ []) ≡ Undefined
another_size = refl

-- Control

branch : does (BranchOn 1 2) (7 ∷ 8 ∷ []) (Integer 0 ∷ Integer 1 ∷ Integer 2 ∷ Integer 3 ∷ []) ≡ Jumps 8 (Integer 2 ∷ Integer 3 ∷ [])
branch = refl

branch_by_unset : does (BranchOn 1 2) (7 ∷ 8 ∷ []) (Unset ∷ Integer 1 ∷ Integer 2 ∷ Integer 3 ∷ []) ≡ doing.Undefined
branch_by_unset = refl

return_of_two : does (Return Together) [] (Integer 1 ∷ Integer 2 ∷ []) ≡ Returns (together (Integer 1 ∷ Integer 2 ∷ []) ∷ [])
return_of_two = refl

-- Calls

fields : spread (None ∷ Some 1 ∷ []) (Integer 4 ∷ descriptor 1 (Pointer 0 0) (Pointer 0 8) (Integer 1) (Integer 2 ∷ []) (Integer 3 ∷ []) ∷ [])
    ≡ Gives (Integer 4 ∷ Pointer 0 0 ∷ Pointer 0 8 ∷ Integer 1 ∷ Integer 2 ∷ Integer 3 ∷ [])
fields = refl

arguments : gathered (None ∷ Some 2 ∷ Some 0 ∷ []) (Integer 4 ∷ Pointer 5 0 ∷ Pointer 5 0 ∷ Integer 1 ∷ Integer 2 ∷ Integer 3 ∷ Integer 3 ∷ Integer 1 ∷ Unset ∷ Unset ∷ Unset ∷ [])
    ≡ Gives (Integer 4 ∷ matrix ∷ together (Unset ∷ Unset ∷ Unset ∷ []) ∷ [])
arguments = refl

too_few_fields : gathered (Some 1 ∷ []) (Pointer 5 0 ∷ Pointer 5 0 ∷ Integer 1 ∷ Integer 2 ∷ []) ≡ Outside
too_few_fields = refl

size_of_33_bits : byte_size 33 ≡ 8
size_of_33_bits = refl
