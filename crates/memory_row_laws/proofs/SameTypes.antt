-- Types that are the same are equal.
use Rattle.std.proofs.Common.{◌≡◌, List, [], ◌∷◌, true, false, refl, sym, ap, ap₂, true≢false}
use Rattle.tree_model.specs.declared.type_tree.Dim.{Dim}
use Rattle.tree_model.specs.declared.type_tree.Dim.TheVariants.{Fixed, Dynamic}
use Rattle.plain_tree.specs.Types.{PlainType, PlainTypes, Int, Index, Memref, Func, Ptr, Void, Struct, Array, LlvmFunc, end_of_types, more_types, same_type, same_types, same_dim, same_dims}
use Rattle.row_laws.proofs.Values.{first_holds, second_holds, equal_numbers}

no_way {ℓ} : {A : Type ℓ} → false ≡ true → A
no_way h = absurd (true≢false (sym h))

dim_is : (d e : Dim) → same_dim d e ≡ true → d ≡ e
dim_is (Fixed m) (Fixed n) h = ap Fixed (equal_numbers m n h)
dim_is Dynamic Dynamic h = refl
dim_is (Fixed m) Dynamic h = no_way h
dim_is Dynamic (Fixed n) h = no_way h

dims_are : (ds es : List Dim) → same_dims ds es ≡ true → ds ≡ es
dims_are [] [] h = refl
dims_are (d ∷ ds) (e ∷ es) h = ap₂ (λ d ds. d ∷ ds) (dim_is d e (first_holds _ _ h)) (dims_are ds es (second_holds _ _ h))
dims_are [] (e ∷ es) h = no_way h
dims_are (d ∷ ds) [] h = no_way h

mutual
  pub type_is : (t u : PlainType) → same_type t u ≡ true → t ≡ u
  type_is (Int m) (Int n) h = ap Int (equal_numbers m n h)
  type_is Index Index h = refl
  type_is (Memref ds t) (Memref es u) h = ap₂ Memref (dims_are ds es (first_holds _ _ h)) (type_is t u (second_holds _ _ h))
  type_is (Func ts us) (Func vs ws) h = ap₂ Func (types_are ts vs (first_holds _ _ h)) (types_are us ws (second_holds _ _ h))
  type_is Ptr Ptr h = refl
  type_is Void Void h = refl
  type_is (Struct ts) (Struct us) h = ap Struct (types_are ts us h)
  type_is (Array m t) (Array n u) h = ap₂ Array (equal_numbers m n (first_holds _ _ h)) (type_is t u (second_holds _ _ h))
  type_is (LlvmFunc t ts) (LlvmFunc u us) h = ap₂ LlvmFunc (type_is t u (first_holds _ _ h)) (types_are ts us (second_holds _ _ h))
  type_is _ _ h = no_way h

  types_are : (ts us : PlainTypes) → same_types ts us ≡ true → ts ≡ us
  types_are end_of_types end_of_types h = refl
  types_are (more_types t ts) (more_types u us) h = ap₂ more_types (type_is t u (first_holds _ _ h)) (types_are ts us (second_holds _ _ h))
  types_are _ _ h = no_way h
