-- The texts of types and attributes, written out.
use Rattle.std.proofs.Common.{◌≡◌, ℕ, ℤ, List, [], ◌∷◌, refl, ap, ◌∙◌, map}
use Rattle.std.specs.Prelude.{codes, pos, negsuc}
use Rattle.std.specs.Fmt.{digits}
use Rattle.mlir_lex.specs.Bytes.{is_bare_byte, starts_bare, is_letter, is_digit}
use Rattle.tree_model.specs.declared.type_tree.Dim.{Dim}
use Rattle.tree_model.specs.declared.type_tree.TypeTree.{TypeTree, out-TypeTree, map-TypeTree, fold_out-TypeTree}
use Rattle.tree_model.specs.declared.type_tree.TypeTree as type
use Rattle.tree_model.specs.declared.type_tree.TypeTree.TheVariants as type_parts
use Rattle.tree_model.specs.declared.type_tree.TypeTree.TheOpen.{TypeTree-F}
use Rattle.tree_model.specs.declared.attr_tree.AttrTree.{AttrTree, out-AttrTree, map-AttrTree, fold_out-AttrTree}
use Rattle.tree_model.specs.declared.attr_tree.AttrTree as attr
use Rattle.tree_model.specs.declared.attr_tree.AttrTree.TheVariants as attr_parts
use Rattle.tree_model.specs.declared.attr_tree.AttrTree.TheOpen.{AttrTree-F}
use Rattle.tree_text.specs.TypeText.{Printed, printed, print_step}
use Rattle.tree_text.specs.AttrText.{Shown, shown, show_step}
use Rattle.tree_text.specs.Laws.{FunctionInStruct, MemrefInStruct, ArrayInArray, LlvmFunction, FunctionOutside, FunctionAsResult, BitAttr, IntegerAttr, IntegersAttr, DialectAttr, Entries}

of_type : (t : TypeTree) (y : TypeTree-F TypeTree) → out-TypeTree t ≡ y → printed t ≡ print_step (map-TypeTree TypeTree Printed printed y)
of_type t y e = fold_out-TypeTree Printed print_step t ∙ ap (λ z. print_step (map-TypeTree TypeTree Printed printed z)) e

of_int : (n : ℕ) → printed (type.Int n) ≡ print_step (TypeTree-F.Int n)
of_int n = of_type (type.Int n) (TypeTree-F.Int n) (type_parts.outs-Int n)

of_index : printed type.Index ≡ print_step TypeTree-F.Index
of_index = of_type type.Index TypeTree-F.Index type_parts.outs-Index

of_ptr : printed type.Ptr ≡ print_step TypeTree-F.Ptr
of_ptr = of_type type.Ptr TypeTree-F.Ptr type_parts.outs-Ptr

of_void : printed type.Void ≡ print_step TypeTree-F.Void
of_void = of_type type.Void TypeTree-F.Void type_parts.outs-Void

of_memref : (ds : List Dim) (e : TypeTree) → printed (type.Memref ds e) ≡ print_step (TypeTree-F.Memref ds (printed e))
of_memref ds e = of_type (type.Memref ds e) (TypeTree-F.Memref ds e) (type_parts.outs-Memref ds e)

of_func : (is rs : List TypeTree) → printed (type.Func is rs) ≡ print_step (TypeTree-F.Func (map printed is) (map printed rs))
of_func is rs = of_type (type.Func is rs) (TypeTree-F.Func is rs) (type_parts.outs-Func is rs)

of_struct : (ts : List TypeTree) → printed (type.Struct ts) ≡ print_step (TypeTree-F.Struct (map printed ts))
of_struct ts = of_type (type.Struct ts) (TypeTree-F.Struct ts) (type_parts.outs-Struct ts)

of_array : (n : ℕ) (e : TypeTree) → printed (type.Array n e) ≡ print_step (TypeTree-F.Array n (printed e))
of_array n e = of_type (type.Array n e) (TypeTree-F.Array n e) (type_parts.outs-Array n e)

of_llvm_func : (o : TypeTree) (is : List TypeTree) → printed (type.LlvmFunc o is) ≡ print_step (TypeTree-F.LlvmFunc (printed o) (map printed is))
of_llvm_func o is = of_type (type.LlvmFunc o is) (TypeTree-F.LlvmFunc o is) (type_parts.outs-LlvmFunc o is)

ruleset levels = (of_int, of_index, of_ptr, of_void, of_memref, of_func, of_struct, of_array, of_llvm_func)

pub function_in_struct : FunctionInStruct
function_in_struct = simp levels refl

pub memref_in_struct : MemrefInStruct
unfolding digits
memref_in_struct = simp levels refl

pub array_in_array : ArrayInArray
unfolding digits
array_in_array = simp levels refl

pub llvm_function : LlvmFunction
unfolding digits
llvm_function = simp levels refl

pub function_outside : FunctionOutside
unfolding digits
function_outside = simp levels refl

pub function_as_result : FunctionAsResult
function_as_result = simp levels refl

of_attr : (a : AttrTree) (y : AttrTree-F AttrTree) → out-AttrTree a ≡ y → shown a ≡ show_step (map-AttrTree AttrTree Shown shown y)
of_attr a y e = fold_out-AttrTree Shown show_step a ∙ ap (λ z. show_step (map-AttrTree AttrTree Shown shown z)) e

of_unit : shown attr.Unit ≡ show_step AttrTree-F.Unit
of_unit = of_attr attr.Unit AttrTree-F.Unit attr_parts.outs-Unit

of_integer : (v : ℤ) (t : TypeTree) → shown (attr.Int v t) ≡ show_step (AttrTree-F.Int v t)
of_integer v t = of_attr (attr.Int v t) (AttrTree-F.Int v t) (attr_parts.outs-Int v t)

of_str : (b : List ℕ) → shown (attr.Str b) ≡ show_step (AttrTree-F.Str b)
of_str b = of_attr (attr.Str b) (AttrTree-F.Str b) (attr_parts.outs-Str b)

of_ints : (w : ℕ) (ns : List ℤ) → shown (attr.Ints w ns) ≡ show_step (AttrTree-F.Ints w ns)
of_ints w ns = of_attr (attr.Ints w ns) (AttrTree-F.Ints w ns) (attr_parts.outs-Ints w ns)

of_dialect : (n : List ℕ) (ws : List (List ℕ)) → shown (attr.Dialect n ws) ≡ show_step (AttrTree-F.Dialect n ws)
of_dialect n ws = of_attr (attr.Dialect n ws) (AttrTree-F.Dialect n ws) (attr_parts.outs-Dialect n ws)

pub bit_attr : BitAttr
bit_attr = ap (λ s. s.text) (of_integer (negsuc 0) (type.Int 1)) ∙ simp (type_parts.outs-Int) refl

pub integer_attr : IntegerAttr
unfolding digits
integer_attr = ap (λ s. s.text) (of_integer (negsuc 4) (type.Int 32)) ∙ simp (type_parts.outs-Int, of_int) refl

pub integers_attr : IntegersAttr
unfolding digits
integers_attr = ap (λ s. s.text) (of_ints 32 (pos 1 ∷ negsuc 1 ∷ []))

pub dialect_attr : DialectAttr
dialect_attr = ap (λ s. s.text) (of_dialect (codes "arith.overflow") (codes "nsw" ∷ codes "nuw" ∷ []))

pub entries : Entries
unfolding is_bare_byte starts_bare is_letter is_digit
entries = simp (of_unit, of_str) refl
