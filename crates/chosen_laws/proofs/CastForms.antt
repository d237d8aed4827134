-- The casts of a pattern in converted types move their values.
use Rattle.std.proofs.Common.{◌≡◌, ℕ, zero, suc, ◌==◌, Bool, true, false, List, [], ◌∷◌, Some, length, map, refl, sym, ap, ◌∙◌, arith}
use Rattle.std.proofs.lemmas.Bool.{eqb-true}
use Rattle.std.specs.Prelude.{codes, ◌&&◌, if◌then◌else◌}
use Rattle.conversion_model.proofs.ReconcileLaws.{same_number}
use Rattle.tree_model.specs.declared.type_tree.Dim.{Dim}
use Rattle.tree_model.specs.declared.type_tree.TypeTree.{TypeTree, out-TypeTree, fold_out-TypeTree}
use Rattle.tree_model.specs.declared.type_tree.TypeTree as type
use Rattle.tree_model.specs.declared.type_tree.TypeTree.TheVariants.{outs-Int, outs-Index, outs-Memref, outs-Ptr, outs-Struct, outs-Array}
use Rattle.operation_model.specs.Pures.{Moves}
use Rattle.operation_model.specs.Forms.{Computes}
use Rattle.form_model.specs.Types.{all_same, become_same, changed_at, converted, descriptor_type, is_llvm, same_at, same_converted, same_type}
use Rattle.form_model.specs.Classes.{form_of}
use Rattle.plain_tree.specs.Types.{PlainType, Int, Index, Memref, Func, Ptr, Void, Struct, Array, LlvmFunc, type_tree, type_trees, types_in}
use Rattle.conversion_model.specs.Types.{descriptor, new_type}
use Rattle.conversion_model.specs.Chosen.{change_of}
use Rattle.sound_model.specs.Runs.{form_at}
use Rattle.chosen_laws.proofs.Lists.{none_some, some_same}
use Rattle.chosen_laws.proofs.Casts.{Changes}

moves : (bits : ℕ) (t u : TypeTree) → become_same bits t u ≡ true
    → form_of (codes "builtin.unrealized_conversion_cast") (record { bits = bits; props = []; operands = t ∷ []; results = u ∷ [] }) ≡ Computes Moves
unfolding form_of
moves bits t u e = rw e refl

same_int : (m n : ℕ) → same_type (type.Int m) (type.Int n) ≡ (m == n)
same_int m n = ap (λ f. f (type.Int n)) (fold_out-TypeTree (TypeTree → Bool) (λ level t. same_at level (out-TypeTree t)) (type.Int m)) ∙ simp outs-Int refl

same_ptr : same_type type.Ptr type.Ptr ≡ true
same_ptr = ap (λ f. f type.Ptr) (fold_out-TypeTree (TypeTree → Bool) (λ level t. same_at level (out-TypeTree t)) type.Ptr) ∙ simp outs-Ptr refl

same_array : (m n : ℕ) (t u : TypeTree) → same_type (type.Array m t) (type.Array n u) ≡ ((m == n) && same_type t u)
same_array m n t u = ap (λ f. f (type.Array n u)) (fold_out-TypeTree (TypeTree → Bool) (λ level x. same_at level (out-TypeTree x)) (type.Array m t)) ∙ simp outs-Array refl

same_struct : (ts us : List TypeTree) → same_type (type.Struct ts) (type.Struct us) ≡ all_same (map same_type ts) us
same_struct ts us = ap (λ f. f (type.Struct us)) (fold_out-TypeTree (TypeTree → Bool) (λ level x. same_at level (out-TypeTree x)) (type.Struct ts)) ∙ simp outs-Struct refl

int_llvm : (n : ℕ) → is_llvm (type.Int n) ≡ true
int_llvm n = simp (fold_out-TypeTree, outs-Int) refl

int_same : (n : ℕ) → same_type (type.Int n) (type.Int n) ≡ true
int_same n = same_int n n ∙ same_number n n refl

arrays_same : (bits n : ℕ) → same_type (type.Array n (type.Int bits)) (type.Array n (type.Int bits)) ≡ true
arrays_same bits n = same_array n n (type.Int bits) (type.Int bits) ∙ ap (λ b. b && same_type (type.Int bits) (type.Int bits)) (same_number n n refl) ∙ int_same bits

descriptor_same : (bits rank : ℕ) → same_type (descriptor_type bits rank) (descriptor_type bits rank) ≡ true
descriptor_same bits zero = same_struct _ _ ∙ simp (same_ptr, int_same bits) refl
descriptor_same bits (suc rank) = same_struct _ _ ∙ simp (same_ptr, int_same bits, arrays_same bits (suc rank)) refl

descriptor_llvm : (bits rank : ℕ) → is_llvm (descriptor_type bits rank) ≡ true
descriptor_llvm bits zero = simp (fold_out-TypeTree, outs-Int, outs-Ptr, outs-Struct) refl
descriptor_llvm bits (suc rank) = simp (fold_out-TypeTree, outs-Int, outs-Ptr, outs-Struct, outs-Array) refl

not_none : (n : ℕ) → (suc n == 0) ≡ false
not_none n = go (suc n == 0) refl
  where
    go : (b : Bool) → (suc n == 0) ≡ b → b ≡ false
    go true is = absurd (omega (arith, eqb-true (suc n) 0 is))
    go false is = refl

descriptor_tree : (bits : ℕ) (dims : List Dim) → type_tree (descriptor bits (length dims)) ≡ descriptor_type bits (length dims)
descriptor_tree bits [] = refl
descriptor_tree bits (d ∷ ds) =
    let n : ℕ = suc (length ds) in
    ap (λ b. type.Struct (type.Ptr ∷ type.Ptr ∷ type.Int bits ∷ type_trees (types_in (if b then [] else Array n (Int bits) ∷ Array n (Int bits) ∷ [])))) (not_none (length ds))

-- own types stay
own_stays : (bits : ℕ) (t : TypeTree) → is_llvm t ≡ true → converted bits t ≡ Some t
own_stays bits t e = ap (λ b. if b then Some t else changed_at bits (out-TypeTree t)) e

index_becomes : (bits : ℕ) → converted bits type.Index ≡ Some (type.Int bits)
index_becomes bits = simp (fold_out-TypeTree, outs-Index) refl

memref_becomes : (bits : ℕ) (dims : List Dim) (t : TypeTree) → converted bits (type.Memref dims t) ≡ Some (descriptor_type bits (length dims))
memref_becomes bits dims t = simp (fold_out-TypeTree, outs-Memref) refl

both_become : (bits : ℕ) (t u v : TypeTree) → converted bits t ≡ Some v → converted bits u ≡ Some v → same_type v v ≡ true → become_same bits t u ≡ true
both_become bits t u v e f same = ap (λ x. same_converted x (converted bits u)) e ∙ ap (same_converted (Some v)) f ∙ same

changes_of : (bits : ℕ) (t u : PlainType) → new_type bits t ≡ Some u → (v : TypeTree) → converted bits (type_tree t) ≡ Some v → type_tree u ≡ v → is_llvm v ≡ true → same_type v v ≡ true
    → (form_at bits (codes "builtin.unrealized_conversion_cast") [] (t ∷ []) (u ∷ []) ≡ Computes Moves) × (form_at bits (codes "builtin.unrealized_conversion_cast") [] (u ∷ []) (t ∷ []) ≡ Computes Moves)
changes_of bits t u is v e tree own same =
    let back : converted bits (type_tree u) ≡ Some v = ap (converted bits) tree ∙ own_stays bits v own in
    (moves bits (type_tree t) (type_tree u) (both_become bits (type_tree t) (type_tree u) v e back same), moves bits (type_tree u) (type_tree t) (both_become bits (type_tree u) (type_tree t) v back e same))

both_ways : (bits : ℕ) (t u : PlainType) → new_type bits t ≡ Some u
    → (form_at bits (codes "builtin.unrealized_conversion_cast") [] (t ∷ []) (u ∷ []) ≡ Computes Moves) × (form_at bits (codes "builtin.unrealized_conversion_cast") [] (u ∷ []) (t ∷ []) ≡ Computes Moves)
both_ways bits Index u is = changes_of bits Index u is (type.Int bits) (index_becomes bits) (ap type_tree (sym (some_same is))) (int_llvm bits) (int_same bits)
both_ways bits (Memref dims element) u is =
    changes_of bits (Memref dims element) u is (descriptor_type bits (length dims)) (memref_becomes bits dims (type_tree element)) (ap type_tree (sym (some_same is)) ∙ descriptor_tree bits dims)
    (descriptor_llvm bits (length dims)) (descriptor_same bits (length dims))
both_ways bits (Int width) u is = absurd (none_some is)
both_ways bits (Func ts us) u is = absurd (none_some is)
both_ways bits Ptr u is = absurd (none_some is)
both_ways bits Void u is = absurd (none_some is)
both_ways bits (Struct ts) u is = absurd (none_some is)
both_ways bits (Array n t) u is = absurd (none_some is)
both_ways bits (LlvmFunc t ts) u is = absurd (none_some is)

pub changes_move : (bits : ℕ) (is_converted : Bool) → Changes bits (change_of bits is_converted)
changes_move bits true = record { forth = λ t u is. (both_ways bits t u is).0; back = λ t u is. (both_ways bits t u is).1 }
changes_move bits false = record { forth = λ t u is. absurd (none_some is); back = λ t u is. absurd (none_some is) }
