-- Rules `Operands` and `Results`: the number and the types of operands and of results.
use Rattle.std.specs.Prelude.{ℕ, zero, suc, ◌+◌, ◌==◌, nat_lt, Bool, true, false, ◌&&◌, List, [], ◌∷◌, length, drop, Option, Some, None, if◌then◌else◌}
use Rattle.std.specs.List.{list_all}
use Rattle.plain_tree.specs.Types.{PlainType, Int, Index, Memref, same_type}
use Rattle.plain_tree.specs.ValueTypes.{is_own, is_value}
use Rattle.rule_model.specs.declared.shapes.Shape.{Shape}
use Rattle.rule_model.specs.declared.shapes.Shape.TheVariants.{Module, Recast, FuncFunction, FuncCall, FuncReturn, NumberConstant, FlaggedNumbers, TwoNumbers, CompareNumbers, SelectValues, Widen, NarrowNumber, IndexCast, Branch, BranchOn, If, For, While, Switch, Execute, Yield, Condition, Allocate, Deallocate, LoadElement, StoreElement, TakeSize, TakeRank, MemrefCast, LlvmFunction, LlvmCall, LlvmReturn, IntegerConstant, Unset, FlaggedIntegers, TwoIntegers, CompareIntegers, SelectOwn, NarrowInteger, TakePart, PutPart, MovePointer, LoadInteger, StoreInteger}
use Rattle.rule_model.specs.Rows.{shape_of}
use Rattle.rule_model.specs.Facts.{Facts, Holder}
use Rattle.rule_model.specs.Forms.{is_number, is_integer, is_index, is_bit, is_pointer, is_memref, dynamic_count, same_all, may_be_dims, segments, part_in}

abbrev pub no_types : List PlainType → Bool
no_types [] = true
no_types _ = false

-- one type that the test holds of
abbrev pub one_of : (PlainType → Bool) → List PlainType → Bool
one_of test (t ∷ []) = test t
one_of test _ = false

-- two equal types that the test holds of
abbrev pub two_of : (PlainType → Bool) → List PlainType → Bool
two_of test (t ∷ u ∷ []) = test t && same_type t u
two_of test _ = false

-- `i1`, and others
abbrev pub bit_and : (List PlainType → Bool) → List PlainType → Bool
bit_and test (c ∷ ts) = is_bit c && test ts
bit_and test _ = false

-- What a yield or condition passes on, where it may stand

-- the results of the operation that holds it, of a loop with a condition the operands
abbrev pub yielded : Option Shape → Holder → Option (List PlainType)
yielded (Some If) h = Some h.results
yielded (Some For) h = Some h.results
yielded (Some While) h = if h.region == 1 then Some h.operands else None
yielded (Some Switch) h = Some h.results
yielded (Some Execute) h = Some h.results
yielded _ h = None

-- `i1` and the results
abbrev pub conditioned : Option Shape → Holder → Option (List PlainType)
conditioned (Some While) h = if h.region == 0 then Some (Int 1 ∷ h.results) else None
conditioned _ h = None

-- the types that it passes on, none where it may not stand
abbrev pub passed_on : Shape → Holder → Option (List PlainType)
passed_on Yield h = yielded (shape_of h.name) h
passed_on Condition h = conditioned (shape_of h.name) h
passed_on _ h = None

-- the same types, where any are asked for
abbrev pub same_if_asked : Option (List PlainType) → List PlainType → Bool
same_if_asked None ts = true
same_if_asked (Some us) ts = same_all ts us

-- Operands

-- so many of the types are of `index`, and no others
abbrev pub indices : ℕ → List PlainType → Bool
indices n ts = (length ts == n) && list_all is_index ts

-- a memref, and an index for each of its dimensions
abbrev pub memref_and_indices : List PlainType → Bool
memref_and_indices (Memref dims element ∷ ts) = indices (length dims) ts
memref_and_indices _ = false

-- an element, its memref, and an index for each dimension
abbrev pub element_and_place : List PlainType → Bool
element_and_place (t ∷ Memref dims element ∷ ts) = same_type t element && indices (length dims) ts
element_and_place _ = false

-- the dynamic sizes of the memref that results, where it is one
abbrev pub sizes_of : List PlainType → List PlainType → Bool
sizes_of (Memref dims element ∷ []) ts = indices (dynamic_count dims) ts
sizes_of results ts = list_all is_index ts

-- a memref of rank 1 or more, and `index`
abbrev pub memref_and_index : List PlainType → Bool
memref_and_index (Memref (d ∷ ds) element ∷ Index ∷ []) = true
memref_and_index _ = false

-- two bounds and a step of one type, and the values that are carried
abbrev pub range_and_values : List PlainType → Bool
range_and_values (t ∷ u ∷ v ∷ ts) = is_number t && (same_type t u && (same_type t v && list_all is_value ts))
range_and_values _ = false

-- as many as the counts say, where they are given
abbrev pub as_counted : Option (ℕ × ℕ) → List PlainType → Bool
as_counted None ts = true
as_counted (Some counts) ts = length ts == counts.0 + counts.1

-- a value of the llvm dialect, and the part at the path, where there is one
abbrev pub whole_and_part : Option PlainType → List PlainType → Bool
whole_and_part None (t ∷ u ∷ []) = is_own t
whole_and_part (Some part) (t ∷ u ∷ []) = is_own t && same_type u part
whole_and_part _ _ = false

abbrev pub pointer_and_number : List PlainType → Bool
pointer_and_number (t ∷ u ∷ []) = is_pointer t && same_type u (Int 64)
pointer_and_number _ = false

abbrev pub integer_and_pointer : List PlainType → Bool
integer_and_pointer (t ∷ u ∷ []) = is_integer t && is_pointer u
integer_and_pointer _ = false

abbrev pub asked_at : Shape → Option Holder → Option (List PlainType)
asked_at s None = None
asked_at s (Some h) = passed_on s h

-- What calls and returns take is asked by rules `Symbol` and `Signature`, what branches pass by `Successors`.
abbrev pub operands_fit : Facts → Shape → Bool
operands_fit f Recast = true
operands_fit f FuncCall = true
operands_fit f FuncReturn = true
operands_fit f LlvmCall = true
operands_fit f LlvmReturn = true
operands_fit f FlaggedNumbers = two_of is_number f.operands
operands_fit f TwoNumbers = two_of is_number f.operands
operands_fit f CompareNumbers = two_of is_number f.operands
operands_fit f SelectValues = bit_and (two_of is_value) f.operands
operands_fit f Widen = one_of is_integer f.operands
operands_fit f NarrowNumber = one_of is_integer f.operands
operands_fit f IndexCast = one_of is_number f.operands
operands_fit f Branch = list_all is_value f.operands
operands_fit f BranchOn = bit_and (λ ts. list_all is_value ts && as_counted (segments f.props) ts) f.operands
operands_fit f If = one_of is_bit f.operands
operands_fit f For = range_and_values f.operands
operands_fit f While = list_all is_value f.operands
operands_fit f Switch = one_of is_index f.operands
operands_fit f Yield = same_if_asked (asked_at Yield f.holder) f.operands
operands_fit f Condition = same_if_asked (asked_at Condition f.holder) f.operands
operands_fit f Allocate = sizes_of f.results f.operands
operands_fit f Deallocate = one_of is_memref f.operands
operands_fit f LoadElement = memref_and_indices f.operands
operands_fit f StoreElement = element_and_place f.operands
operands_fit f TakeSize = memref_and_index f.operands
operands_fit f TakeRank = one_of is_memref f.operands
operands_fit f MemrefCast = one_of is_memref f.operands
operands_fit f FlaggedIntegers = two_of is_integer f.operands
operands_fit f TwoIntegers = two_of is_integer f.operands
operands_fit f CompareIntegers = two_of is_integer f.operands
operands_fit f SelectOwn = bit_and (two_of is_own) f.operands
operands_fit f NarrowInteger = one_of is_integer f.operands
operands_fit f TakePart = one_of is_own f.operands
operands_fit f PutPart = whole_and_part (part_in f.props f.operands) f.operands
operands_fit f MovePointer = pointer_and_number f.operands
operands_fit f LoadInteger = one_of is_pointer f.operands
operands_fit f StoreInteger = integer_and_pointer f.operands
operands_fit f Module = no_types f.operands
operands_fit f FuncFunction = no_types f.operands
operands_fit f LlvmFunction = no_types f.operands
operands_fit f NumberConstant = no_types f.operands
operands_fit f IntegerConstant = no_types f.operands
operands_fit f Unset = no_types f.operands
operands_fit f Execute = no_types f.operands

-- Results

-- one type, that of the operand at this place
abbrev pub as_operand : ℕ → List PlainType → List PlainType → Bool
as_operand zero (t ∷ ts) (u ∷ []) = same_type t u
as_operand (suc n) (t ∷ ts) us = as_operand n ts us
as_operand n _ _ = false

abbrev pub wider : List PlainType → List PlainType → Bool
wider (Int n ∷ []) (Int m ∷ []) = nat_lt n m
wider _ _ = false

abbrev pub narrower : List PlainType → List PlainType → Bool
narrower (Int n ∷ []) (Int m ∷ []) = nat_lt m n
narrower _ _ = false

-- from `index` to an integer, or back
abbrev pub index_and_integer : List PlainType → List PlainType → Bool
index_and_integer (Index ∷ []) (Int m ∷ []) = true
index_and_integer (Int n ∷ []) (Index ∷ []) = true
index_and_integer _ _ = false

abbrev pub element_of : List PlainType → List PlainType → Bool
element_of (Memref dims element ∷ ts) (t ∷ []) = same_type t element
element_of _ _ = false

-- of the same rank and element, each dimension equal or one of the two dynamic
abbrev pub recast_memref : List PlainType → List PlainType → Bool
recast_memref (Memref ds t ∷ []) (Memref es u ∷ []) = same_type t u && may_be_dims ds es
recast_memref _ _ = false

-- the part at the path, where there is one, else one type
abbrev pub part_results : Option PlainType → List PlainType → Bool
part_results None us = length us == 1
part_results (Some part) us = one_of (same_type part) us

abbrev pub results_fit : Facts → Shape → Bool
results_fit f Recast = true
results_fit f FuncCall = true
results_fit f LlvmCall = true
results_fit f NumberConstant = one_of is_number f.results
results_fit f FlaggedNumbers = as_operand 0 f.operands f.results
results_fit f TwoNumbers = as_operand 0 f.operands f.results
results_fit f CompareNumbers = one_of is_bit f.results
results_fit f SelectValues = as_operand 1 f.operands f.results
results_fit f Widen = wider f.operands f.results
results_fit f NarrowNumber = narrower f.operands f.results
results_fit f IndexCast = index_and_integer f.operands f.results
results_fit f If = list_all is_value f.results
results_fit f For = same_all (drop 3 f.operands) f.results
results_fit f While = list_all is_value f.results
results_fit f Switch = list_all is_value f.results
results_fit f Execute = list_all is_value f.results
results_fit f Allocate = one_of is_memref f.results
results_fit f LoadElement = element_of f.operands f.results
results_fit f TakeSize = one_of is_index f.results
results_fit f TakeRank = one_of is_index f.results
results_fit f MemrefCast = recast_memref f.operands f.results
results_fit f IntegerConstant = one_of is_integer f.results
results_fit f Unset = one_of is_own f.results
results_fit f FlaggedIntegers = as_operand 0 f.operands f.results
results_fit f TwoIntegers = as_operand 0 f.operands f.results
results_fit f CompareIntegers = one_of is_bit f.results
results_fit f SelectOwn = as_operand 1 f.operands f.results
results_fit f NarrowInteger = narrower f.operands f.results
results_fit f TakePart = part_results (part_in f.props f.operands) f.results
results_fit f PutPart = as_operand 0 f.operands f.results
results_fit f MovePointer = one_of is_pointer f.results
results_fit f LoadInteger = one_of is_integer f.results
results_fit f Module = no_types f.results
results_fit f FuncFunction = no_types f.results
results_fit f LlvmFunction = no_types f.results
results_fit f FuncReturn = no_types f.results
results_fit f LlvmReturn = no_types f.results
results_fit f Branch = no_types f.results
results_fit f BranchOn = no_types f.results
results_fit f Yield = no_types f.results
results_fit f Condition = no_types f.results
results_fit f Deallocate = no_types f.results
results_fit f StoreElement = no_types f.results
results_fit f StoreInteger = no_types f.results
