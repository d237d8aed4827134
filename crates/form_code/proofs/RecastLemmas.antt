-- Which types are of the llvm dialect, layer by layer.
use Rattle.std.proofs.Common.{◌≡◌, ℕ, List, Bool, true, false, map, ap, ◌∙◌}
use Rattle.std.specs.List.{list_all}
use Rattle.std.proofs.lemmas.Grind.{common_steps}
use Rattle.tree_model.specs.declared.type_tree.Dim.{Dim}
use Rattle.tree_model.specs.declared.type_tree.TypeTree.{TypeTree, out-TypeTree, map-TypeTree, fold_out-TypeTree}
use Rattle.tree_model.specs.declared.type_tree.TypeTree as type
use Rattle.tree_model.specs.declared.type_tree.TypeTree.TheOpen.{TypeTree-F}
use Rattle.tree_model.specs.declared.type_tree.TypeTree.TheVariants.{outs-Int, outs-Index, outs-Memref, outs-Func, outs-Ptr, outs-Void, outs-Struct, outs-Array, outs-LlvmFunc}
use Rattle.form_model.specs.Types.{is_llvm, is_llvm_at}

llvm_is : (t : TypeTree) (level : TypeTree-F TypeTree) → out-TypeTree t ≡ level → is_llvm t ≡ is_llvm_at (map-TypeTree TypeTree Bool is_llvm level)
llvm_is t level e = fold_out-TypeTree Bool is_llvm_at t ∙ ap (λ x. is_llvm_at (map-TypeTree TypeTree Bool is_llvm x)) e

pub llvm-Int : (n : ℕ) → is_llvm (type.Int n) ≡ true
llvm-Int n = llvm_is _ _ (outs-Int n)

pub llvm-Index : is_llvm type.Index ≡ false
llvm-Index = llvm_is _ _ outs-Index

pub llvm-Memref : (dims : List Dim) (element : TypeTree) → is_llvm (type.Memref dims element) ≡ false
llvm-Memref dims element = llvm_is _ _ (outs-Memref dims element)

pub llvm-Func : (inputs results : List TypeTree) → is_llvm (type.Func inputs results) ≡ false
llvm-Func inputs results = llvm_is _ _ (outs-Func inputs results)

pub llvm-Ptr : is_llvm type.Ptr ≡ true
llvm-Ptr = llvm_is _ _ outs-Ptr

pub llvm-Void : is_llvm type.Void ≡ false
llvm-Void = llvm_is _ _ outs-Void

pub llvm-Struct : (fields : List TypeTree) → is_llvm (type.Struct fields) ≡ list_all (λ field. field) (map is_llvm fields)
llvm-Struct fields = llvm_is _ _ (outs-Struct fields)

pub llvm-Array : (n : ℕ) (element : TypeTree) → is_llvm (type.Array n element) ≡ is_llvm element
llvm-Array n element = llvm_is _ _ (outs-Array n element)

pub llvm-LlvmFunc : (output : TypeTree) (inputs : List TypeTree) → is_llvm (type.LlvmFunc output inputs) ≡ false
llvm-LlvmFunc output inputs = llvm_is _ _ (outs-LlvmFunc output inputs)

pub ruleset llvm_layers = (common_steps, llvm-Int, llvm-Index, llvm-Memref, llvm-Func, llvm-Ptr, llvm-Void, llvm-Struct, llvm-Array, llvm-LlvmFunc)
