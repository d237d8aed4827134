-- Worked examples of forms.
use Rattle.std.proofs.Common.{◌≡◌, ℕ, List, [], ◌∷◌, Some, None, Bool, true, false, refl, ap, ◌∙◌}
use Rattle.std.specs.Prelude.{◌==◌, codes, ℤ, pos, negsuc}
use Rattle.tree_model.specs.declared.type_tree.Dim.TheVariants.{Fixed, Dynamic}
use Rattle.tree_model.specs.declared.type_tree.TypeTree.{TypeTree, out-TypeTree, fold_out-TypeTree}
use Rattle.tree_model.specs.declared.type_tree.TypeTree as type
use Rattle.tree_model.specs.declared.type_tree.TypeTree.TheVariants.{outs-Int, outs-Index, outs-Memref, outs-Ptr, outs-Struct, outs-Array}
use Rattle.tree_model.specs.declared.attr_tree.AttrTree.{AttrTree}
use Rattle.tree_model.specs.declared.attr_tree.AttrTree as attr
use Rattle.tree_model.specs.declared.attr_tree.AttrTree.TheVariants as parts
use Rattle.number_model.specs.Arithmetic.{no_flags, Add, Multiply, Divide, DivideDown, Below, AboveUnsigned, ExtendSigned, Truncate, Keep}
use Rattle.operation_model.specs.Values.{Integer, Unset, together}
use Rattle.operation_model.specs.Pures.{Known, TwoNumbers, Compares, Resizes, Moves, TakesPart, MovesPointer, HasSizes, TakesSize}
use Rattle.operation_model.specs.Calling.{Bare, Together}
use Rattle.form_model.specs.Types.{same_type, same_at, width}
use Rattle.operation_model.specs.Forms.{Form, Computes, Branch, BranchOn, Call, Return, Load, Store, Allocate, AllocateAligned, Free, NewMemref, LoadElement, StoreElement, For, Switch, Unknown}
use Rattle.form_model.specs.Properties.{Entries}
use Rattle.form_model.specs.Classes.{form_of}

abbrev of : List ℕ → ℕ → Entries → List TypeTree → List TypeTree → Form
of name bits props operands results = form_of name (record { bits = bits; props = props; operands = operands; results = results })

abbrev i32 : TypeTree
i32 = type.Int 32

-- properties
abbrev value : ℤ → TypeTree → Entries
value z t = (codes "value", attr.Int z t) ∷ []

abbrev callee : List ℕ → Entries
callee name = (codes "callee", attr.Symbol name) ∷ []

abbrev vector : TypeTree
vector = type.Memref (Dynamic ∷ []) i32

abbrev matrix : TypeTree
matrix = type.Memref (Fixed 2 ∷ Dynamic ∷ []) type.Index

branch : of (codes "cf.br") 64 [] [] [] ≡ Branch
unfolding form_of
branch = refl

same_branch : of (codes "llvm.br") 64 [] [] [] ≡ Branch
unfolding form_of
same_branch = refl

unknown : of (codes "foo.bar") 64 [] [] [] ≡ Unknown
unfolding form_of
unknown = refl

addition : of (codes "arith.addi") 64 [] (i32 ∷ i32 ∷ []) (i32 ∷ []) ≡ Computes (TwoNumbers (Add no_flags) 32)
unfolding form_of
addition = simp outs-Int refl

same_addition : of (codes "llvm.add") 64 [] (i32 ∷ i32 ∷ []) (i32 ∷ []) ≡ Computes (TwoNumbers (Add no_flags) 32)
unfolding form_of
same_addition = simp outs-Int refl

-- an integer type has 1 to 64 bits, or no width
widest : width 64 ≡ Some 64
widest = refl

wider : width 65 ≡ None
wider = refl

narrowest : width 1 ≡ Some 1
narrowest = refl

no_bits : width 0 ≡ None
no_bits = refl

addition_of_too_wide_ones : of (codes "arith.addi") 64 [] (type.Int 65 ∷ type.Int 65 ∷ []) (type.Int 65 ∷ []) ≡ Unknown
unfolding form_of
addition_of_too_wide_ones = simp outs-Int refl

-- an `index` has the bits that the run says
addition_of_indices : of (codes "arith.muli") 32 [] (type.Index ∷ type.Index ∷ []) (type.Index ∷ []) ≡ Computes (TwoNumbers (Multiply no_flags) 32)
unfolding form_of
addition_of_indices = simp outs-Index refl

flags_are_read :
    of (codes "arith.addi") 64 ((codes "overflowFlags", attr.Dialect (codes "arith.overflow") (codes "nsw" ∷ [])) ∷ []) (i32 ∷ i32 ∷ []) (i32 ∷ [])
    ≡ Computes (TwoNumbers (Add (record { signed = true; unsigned = false })) 32)
unfolding form_of
flags_are_read = simp (outs-Int, parts.outs-Dialect) refl

no_words : of (codes "llvm.mul") 64 ((codes "overflowFlags", attr.Dialect (codes "llvm.overflow") (codes "none" ∷ [])) ∷ []) (i32 ∷ i32 ∷ []) (i32 ∷ []) ≡ Computes (TwoNumbers (Multiply no_flags) 32)
unfolding form_of
no_words = simp (outs-Int, parts.outs-Dialect) refl

constant_of_a_bit : of (codes "arith.constant") 64 (value (negsuc 0) (type.Int 1)) [] (type.Int 1 ∷ []) ≡ Computes (Known (Integer 1))
unfolding form_of
constant_of_a_bit = simp (outs-Int, parts.outs-Int) refl

constant_of_an_index : of (codes "arith.constant") 32 (value (pos 4294967299) type.Index) [] (type.Index ∷ []) ≡ Computes (Known (Integer 3))
unfolding form_of
constant_of_an_index = simp (outs-Index, parts.outs-Int) refl

comparison : of (codes "arith.cmpi") 64 ((codes "predicate", attr.Int (pos 2) (type.Int 64)) ∷ []) (i32 ∷ i32 ∷ []) (type.Int 1 ∷ []) ≡ Computes (Compares Below 32)
unfolding form_of
comparison = simp (outs-Int, parts.outs-Int) refl

other_comparison : of (codes "llvm.icmp") 64 ((codes "predicate", attr.Int (pos 8) (type.Int 64)) ∷ []) (i32 ∷ i32 ∷ []) (type.Int 1 ∷ []) ≡ Computes (Compares AboveUnsigned 32)
unfolding form_of
other_comparison = simp (outs-Int, parts.outs-Int) refl

index_is_wider : of (codes "arith.index_cast") 64 [] (i32 ∷ []) (type.Index ∷ []) ≡ Computes (Resizes (ExtendSigned 64) 32)
unfolding form_of
index_is_wider = simp (outs-Int, outs-Index) refl

index_is_as_wide : of (codes "arith.index_cast") 32 [] (i32 ∷ []) (type.Index ∷ []) ≡ Computes (Resizes Keep 32)
unfolding form_of
index_is_as_wide = simp (outs-Int, outs-Index) refl

index_is_cut : of (codes "arith.index_castui") 64 [] (type.Index ∷ []) (type.Int 8 ∷ []) ≡ Computes (Resizes (Truncate no_flags 8) 64)
unfolding form_of
index_is_cut = simp (outs-Int, outs-Index) refl

division : of (codes "llvm.sdiv") 64 [] (i32 ∷ i32 ∷ []) (i32 ∷ []) ≡ Computes (TwoNumbers Divide 32)
unfolding form_of
division = simp outs-Int refl

floor : of (codes "arith.floordivsi") 64 [] (i32 ∷ i32 ∷ []) (i32 ∷ []) ≡ Computes (TwoNumbers DivideDown 32)
unfolding form_of
floor = simp outs-Int refl

-- calls: those that make and end buffers, and others
call_of_malloc : of (codes "llvm.call") 64 (callee (codes "malloc")) (type.Int 64 ∷ []) (type.Ptr ∷ []) ≡ Allocate
unfolding form_of
call_of_malloc = simp parts.outs-Symbol refl

call_of_free : of (codes "llvm.call") 64 (callee (codes "free")) (type.Ptr ∷ []) [] ≡ Free
unfolding form_of
call_of_free = simp parts.outs-Symbol refl

call_of_aligned_alloc : of (codes "llvm.call") 64 (callee (codes "aligned_alloc")) (type.Int 64 ∷ type.Int 64 ∷ []) (type.Ptr ∷ []) ≡ AllocateAligned
unfolding form_of
call_of_aligned_alloc = simp parts.outs-Symbol refl

llvm_call : of (codes "llvm.call") 64 (callee (codes "g")) (type.Int 64 ∷ []) (type.Ptr ∷ []) ≡ Call (codes "g") (None ∷ []) Bare
unfolding form_of
llvm_call = simp (parts.outs-Symbol, outs-Int) refl

call_with_memref : of (codes "func.call") 64 (callee (codes "g")) (i32 ∷ matrix ∷ []) (i32 ∷ i32 ∷ []) ≡ Call (codes "g") (None ∷ Some 2 ∷ []) Together
unfolding form_of
call_with_memref = simp (parts.outs-Symbol, outs-Int, outs-Memref) refl

return_of_two : of (codes "func.return") 64 [] (i32 ∷ i32 ∷ []) [] ≡ Return Together
unfolding form_of
return_of_two = refl

return_of_a_struct : of (codes "llvm.return") 64 [] (type.Struct (i32 ∷ i32 ∷ []) ∷ []) [] ≡ Return Bare
unfolding form_of
return_of_a_struct = refl

branch_on : of (codes "cf.cond_br") 64 ((codes "operandSegmentSizes", attr.Ints 32 (pos 1 ∷ pos 2 ∷ pos 0 ∷ [])) ∷ []) [] [] ≡ BranchOn 2 0
unfolding form_of
branch_on = simp parts.outs-Ints refl

switch : of (codes "scf.index_switch") 32 ((codes "cases", attr.Ints 64 (pos 7 ∷ negsuc 0 ∷ [])) ∷ []) (type.Index ∷ []) [] ≡ Switch 32 (pos 7 ∷ negsuc 0 ∷ [])
unfolding form_of
switch = simp parts.outs-Ints refl

loop_of_indices : of (codes "scf.for") 32 [] (type.Index ∷ type.Index ∷ type.Index ∷ []) [] ≡ For 32
unfolding form_of
loop_of_indices = simp outs-Index refl

-- memrefs
new_matrix : of (codes "memref.alloc") 32 ((codes "alignment", attr.Int (pos 64) (type.Int 64)) ∷ []) (type.Index ∷ []) (matrix ∷ []) ≡ NewMemref (record { bits = 32; sizes = Some 2 ∷ None ∷ []; element = 32; alignment = 64 })
unfolding form_of
new_matrix = simp (outs-Memref, outs-Index, parts.outs-Int) refl

new_vector : of (codes "memref.alloc") 64 [] (type.Index ∷ []) (vector ∷ []) ≡ NewMemref (record { bits = 64; sizes = None ∷ []; element = 32; alignment = 1 })
unfolding form_of
new_vector = simp (outs-Memref, outs-Int) refl

element_is_loaded : of (codes "memref.load") 64 [] (matrix ∷ type.Index ∷ type.Index ∷ []) (type.Index ∷ []) ≡ LoadElement 64 64
unfolding form_of
element_is_loaded = simp (outs-Memref, outs-Index) refl

element_is_stored : of (codes "memref.store") 64 [] (i32 ∷ vector ∷ type.Index ∷ []) [] ≡ StoreElement 64 32
unfolding form_of
element_is_stored = simp (outs-Memref, outs-Int) refl

size : of (codes "memref.dim") 64 [] (matrix ∷ type.Index ∷ []) (type.Index ∷ []) ≡ Computes (TakesSize 64 2)
unfolding form_of
size = simp outs-Memref refl

rank : of (codes "memref.rank") 64 [] (matrix ∷ []) (type.Index ∷ []) ≡ Computes (Known (Integer 2))
unfolding form_of
rank = simp outs-Memref refl

cast : of (codes "memref.cast") 64 [] (vector ∷ []) (type.Memref (Fixed 4 ∷ []) i32 ∷ []) ≡ Computes (HasSizes 64 (Some 4 ∷ []))
unfolding form_of
cast = simp outs-Memref refl

-- the llvm dialect's own
part : of (codes "llvm.extractvalue") 64 ((codes "position", attr.Ints 64 (pos 3 ∷ pos 1 ∷ [])) ∷ []) [] (i32 ∷ []) ≡ Computes (TakesPart (3 ∷ 1 ∷ []))
unfolding form_of
part = simp parts.outs-Ints refl

moved_pointer : of (codes "llvm.getelementptr") 64 ((codes "elem_type", attr.OfType (type.Int 33)) ∷ []) (type.Ptr ∷ type.Int 64 ∷ []) (type.Ptr ∷ []) ≡ Computes (MovesPointer 8)
unfolding form_of
moved_pointer = simp (parts.outs-OfType, outs-Int) refl

loaded : of (codes "llvm.load") 64 [] (type.Ptr ∷ []) (type.Int 8 ∷ []) ≡ Load 8
unfolding form_of
loaded = simp outs-Int refl

stored : of (codes "llvm.store") 64 [] (type.Int 16 ∷ type.Ptr ∷ []) [] ≡ Store 16
unfolding form_of
stored = simp outs-Int refl

unset_pair : of (codes "llvm.mlir.undef") 64 [] [] (type.Struct (type.Ptr ∷ type.Array 2 i32 ∷ []) ∷ []) ≡ Computes (Known (together (Unset ∷ together (Unset ∷ Unset ∷ []) ∷ [])))
unfolding form_of
unset_pair = simp (fold_out-TypeTree, outs-Struct, outs-Array, outs-Ptr, outs-Int) refl

-- a cast between types that become the same
same_integers : (m n : ℕ) → same_type (type.Int m) (type.Int n) ≡ (m == n)
same_integers m n =
    ap (λ f. f (type.Int n)) (fold_out-TypeTree (TypeTree → Bool) (λ level t. same_at level (out-TypeTree t)) (type.Int m))
    ∙ simp outs-Int refl

same_shape : of (codes "builtin.unrealized_conversion_cast") 64 [] (type.Index ∷ []) (type.Int 64 ∷ []) ≡ Computes Moves
unfolding form_of
same_shape = simp (fold_out-TypeTree, outs-Index, outs-Int) (rw (same_integers 64 64) refl)

other_shape : of (codes "builtin.unrealized_conversion_cast") 32 [] (type.Index ∷ []) (type.Int 64 ∷ []) ≡ Unknown
unfolding form_of
other_shape = simp (fold_out-TypeTree, outs-Index, outs-Int) (rw (same_integers 32 64) refl)

-- of one operand and one result
no_shape : of (codes "builtin.unrealized_conversion_cast") 64 [] [] (type.Int 64 ∷ []) ≡ Unknown
unfolding form_of
no_shape = refl
