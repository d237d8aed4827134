-- Examples of modules that are formed, and of ones that aren't.
use Rattle.std.specs.Prelude.{◌≡◌, refl, ℕ, Bool, true, false, List, [], ◌∷◌, pos, negsuc, codes}
use Rattle.tree_model.specs.declared.type_tree.Dim.TheVariants.{Fixed, Dynamic}
use Rattle.plain_tree.specs.Types.{PlainType, Int, Index, Memref, Func, Ptr, Void, Struct, Array, LlvmFunc, types_in}
use Rattle.plain_tree.specs.Attrs.{Entries, PlainAttr, Unit, Number, Attrs, Dict, OfType, Numbers, attrs_in, dict_in}
use Rattle.plain_tree.specs.Ops.{Op, ops_in, region, end_of_regions, Blocks, end_of_blocks, block}
use Rattle.rule_model.specs.Formed.{is_formed}
use Rattle.rule_model.proofs.Trees.{plain, ends, holds, one_block, func, module_of}

-- a module of a function without a body whose properties are these
abbrev formed_with : Entries → Bool
formed_with props = is_formed (module_of (holds (codes "llvm.func") [] [] props (region end_of_blocks end_of_regions) ∷ []))

abbrev formed_attr : PlainAttr → Bool
formed_attr a = formed_with ((codes "a", a) ∷ [])

abbrev formed_type : PlainType → Bool
formed_type t = formed_attr (OfType t)

-- a function of these blocks
abbrev formed_blocks : Blocks → Bool
formed_blocks blocks = is_formed (module_of (func (codes "f") [] [] blocks ∷ []))

abbrev formed_ops : List Op → Bool
formed_ops os = formed_blocks (one_block 0 [] os)

abbrev makes : ℕ → Op
makes v = plain (codes "t.make") ((v, Int 32) ∷ []) [] []

abbrev takes : ℕ → Op
takes v = plain (codes "t.take") [] (v ∷ []) []

-- Types

no_width : formed_type (Int 0) ≡ false
no_width = refl

greatest_width : formed_type (Int 64) ≡ true
greatest_width = refl

greater_width : formed_type (Int 65) ≡ false
greater_width = refl

eight_dimensions : formed_type (Memref (Dynamic ∷ Dynamic ∷ Dynamic ∷ Dynamic ∷ Dynamic ∷ Dynamic ∷ Dynamic ∷ Dynamic ∷ []) Index) ≡ true
eight_dimensions = refl

nine_dimensions : formed_type (Memref (Dynamic ∷ Dynamic ∷ Dynamic ∷ Dynamic ∷ Dynamic ∷ Dynamic ∷ Dynamic ∷ Dynamic ∷ Dynamic ∷ []) Index) ≡ false
nine_dimensions = refl

great_dimension : formed_type (Memref (Fixed 9223372036854775808 ∷ []) (Int 8)) ≡ false
great_dimension = refl

memref_of_pointers : formed_type (Memref [] Ptr) ≡ false
memref_of_pointers = refl

long_array : formed_type (Array 4294967296 Ptr) ≡ false
long_array = refl

-- inside llvm types any type may stand
parts : formed_type (LlvmFunc Void (types_in (Struct (types_in (Index ∷ Array 4294967295 Ptr ∷ [])) ∷ []))) ≡ true
parts = refl

bad_part : formed_type (Func (types_in (Struct (types_in (Int 0 ∷ [])) ∷ [])) (types_in [])) ≡ false
bad_part = refl

-- Numbers

least_of_i8 : formed_attr (Number (negsuc 127) (Int 8)) ≡ true
least_of_i8 = refl

below_i8 : formed_attr (Number (negsuc 128) (Int 8)) ≡ false
below_i8 = refl

above_i8 : formed_attr (Number (pos 128) (Int 8)) ≡ false
above_i8 = refl

-- `true` is kept as -1
one_of_i1 : formed_attr (Number (pos 1) (Int 1)) ≡ false
one_of_i1 = refl

true_of_i1 : formed_attr (Number (negsuc 0) (Int 1)) ≡ true
true_of_i1 = refl

-- an `index` has the numbers of i64
above_index : formed_attr (Number (pos 9223372036854775808) Index) ≡ false
above_index = refl

number_of_a_pointer : formed_attr (Number (pos 0) Ptr) ≡ false
number_of_a_pointer = refl

array_above : formed_attr (Attrs (attrs_in (Numbers 8 (pos 255 ∷ []) ∷ []))) ≡ false
array_above = refl

-- but of these two properties any number may stand
sizes_above : formed_with ((codes "operandSegmentSizes", Numbers 32 (pos 4294967295 ∷ [])) ∷ (codes "position", Numbers 64 (pos 9223372036854775808 ∷ [])) ∷ []) ≡ true
sizes_above = refl

-- Dictionaries

name_twice : formed_with ((codes "a", Unit) ∷ (codes "b", Unit) ∷ (codes "a", Unit) ∷ []) ≡ false
name_twice = refl

name_twice_inside : formed_attr (Dict (dict_in ((codes "a", Unit) ∷ (codes "a", Unit) ∷ []))) ≡ false
name_twice_inside = refl

-- Values and labels

made_and_taken : formed_ops (takes 0 ∷ makes 0 ∷ []) ≡ true
made_and_taken = refl

made_twice : formed_ops (makes 0 ∷ makes 0 ∷ []) ≡ false
made_twice = refl

taken_from_nowhere : formed_ops (makes 0 ∷ takes 1 ∷ []) ≡ false
taken_from_nowhere = refl

-- also in another region
label_twice : formed_ops (holds (codes "t.r") [] [] [] (region (one_block 0 [] []) end_of_regions) ∷ []) ≡ false
label_twice = refl

-- a successor is a label of the region in which its operation stands
label_of_the_region : formed_blocks (block 0 [] (ops_in (ends (codes "t.go") [] (1 ∷ []) [] ∷ [])) (one_block 1 [] [])) ≡ true
label_of_the_region = refl

label_outside : formed_blocks (block 0 [] (ops_in (holds (codes "t.r") [] [] [] (region (one_block 2 [] (ends (codes "t.go") [] (1 ∷ []) [] ∷ [])) end_of_regions) ∷ [])) (one_block 1 [] [])) ≡ false
label_outside = refl

-- Functions

function_inside : formed_ops (func (codes "g") [] [] end_of_blocks ∷ []) ≡ false
function_inside = refl

module_inside : formed_ops (plain (codes "builtin.module") [] [] [] ∷ []) ≡ false
module_inside = refl

no_function : is_formed (module_of (makes 0 ∷ [])) ≡ false
no_function = refl

-- a name is of bytes, so no text has an operation that is named as a copy
name_beyond_bytes : formed_ops (plain (256 ∷ []) [] [] [] ∷ []) ≡ false
name_beyond_bytes = refl

name_of_bytes : formed_ops (plain (255 ∷ []) [] [] [] ∷ []) ≡ true
name_of_bytes = refl
