-- What each kind of type tells.
use Rattle.std.proofs.Common.{◌≡◌, ℕ, zero, suc, List, ◌∷◌, map, refl, ap, ◌∙◌}
use Rattle.std.specs.Prelude.{replicate}
use Rattle.std.proofs.lemmas.Grind.{common_steps}
use Rattle.tree_model.specs.declared.type_tree.Dim.{Dim}
use Rattle.tree_model.specs.declared.type_tree.TypeTree.{TypeTree, out-TypeTree, map-TypeTree, fold_out-TypeTree}
use Rattle.tree_model.specs.declared.type_tree.TypeTree as type
use Rattle.tree_model.specs.declared.type_tree.TypeTree.TheOpen.{TypeTree-F}
use Rattle.tree_model.specs.declared.type_tree.TypeTree.TheVariants.{outs-Int, outs-Index, outs-Memref, outs-Func, outs-Ptr, outs-Void, outs-Struct, outs-Array, outs-LlvmFunc}
use Rattle.operation_model.specs.Values as value
use Rattle.value_code.specs.declared.value.Value.{Value}
use Rattle.value_code.specs.Models.{value_of, values_of}
use Rattle.value_code.proofs.Shapes.{value_of-Aggregate, value_of-Unset}
use Rattle.form_model.specs.Types.{unset_of, unset_at}

pub unset_is : (t : TypeTree) → unset_of t ≡ unset_at (map-TypeTree TypeTree value.Value unset_of (out-TypeTree t))
unset_is t = fold_out-TypeTree value.Value unset_at t

pub unset-Struct : (fields : List TypeTree) → unset_of (type.Struct fields) ≡ value.together (map unset_of fields)
unset-Struct fields = unset_is (type.Struct fields) ∙ ap (λ x. unset_at (map-TypeTree TypeTree value.Value unset_of x)) (outs-Struct fields)

pub unset-Array : (n : ℕ) (element : TypeTree) → unset_of (type.Array n element) ≡ value.together (replicate n (unset_of element))
unset-Array n element = unset_is (type.Array n element) ∙ ap (λ x. unset_at (map-TypeTree TypeTree value.Value unset_of x)) (outs-Array n element)

unset-other : (t : TypeTree) (level : TypeTree-F TypeTree) → out-TypeTree t ≡ level → unset_of t ≡ unset_at (map-TypeTree TypeTree value.Value unset_of level)
unset-other t level e = unset_is t ∙ ap (λ x. unset_at (map-TypeTree TypeTree value.Value unset_of x)) e

pub unset-Int : (n : ℕ) → unset_of (type.Int n) ≡ value.Unset
unset-Int n = unset-other _ _ (outs-Int n)

pub unset-Index : unset_of type.Index ≡ value.Unset
unset-Index = unset-other _ _ outs-Index

pub unset-Memref : (dims : List Dim) (element : TypeTree) → unset_of (type.Memref dims element) ≡ value.Unset
unset-Memref dims element = unset-other _ _ (outs-Memref dims element)

pub unset-Func : (inputs results : List TypeTree) → unset_of (type.Func inputs results) ≡ value.Unset
unset-Func inputs results = unset-other _ _ (outs-Func inputs results)

pub unset-Ptr : unset_of type.Ptr ≡ value.Unset
unset-Ptr = unset-other _ _ outs-Ptr

pub unset-Void : unset_of type.Void ≡ value.Unset
unset-Void = unset-other _ _ outs-Void

pub unset-LlvmFunc : (output : TypeTree) (inputs : List TypeTree) → unset_of (type.LlvmFunc output inputs) ≡ value.Unset
unset-LlvmFunc output inputs = unset-other _ _ (outs-LlvmFunc output inputs)

-- copies of a value stand for copies of what it stands for
pub values-replicate : (n : ℕ) (v : Value) → values_of (replicate n v) ≡ replicate n (value_of v)
values-replicate zero v = refl
values-replicate (suc n) v = ap (λ vs. value_of v ∷ vs) (values-replicate n v)

pub ruleset unset_layers = (common_steps, unset-Struct, unset-Array, unset-Int, unset-Index, unset-Memref, unset-Func, unset-Ptr, unset-Void, unset-LlvmFunc, values-replicate, value_of-Aggregate, value_of-Unset)

pub ruleset layers = (common_steps, outs-Int, outs-Index, outs-Memref, outs-Func, outs-Ptr, outs-Void, outs-Struct, outs-Array, outs-LlvmFunc)
