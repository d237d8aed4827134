-- The test of types decides whether they are the same.
use Rattle.std.proofs.Common.{◌≡◌, ℕ, eq-eqb, ◌==◌, Bool, true, false, List, [], ◌∷◌, refl, sym, ap, ◌∙◌, true≢false}
use Rattle.std.specs.Prelude.{◌&&◌}
use Rattle.std.proofs.lemmas.Bool.{eqb-true}
use Rattle.tree_model.specs.declared.type_tree.Dim.{Dim}
use Rattle.tree_model.specs.declared.type_tree.Dim.TheVariants.{Fixed, Dynamic}
use Rattle.plain_tree.specs.Types.{PlainType, PlainTypes, Int, Index, Memref, Func, Ptr, Void, Struct, Array, LlvmFunc, end_of_types, more_types, same_dim, same_dims, same_type, same_types}

and_first : (a b : Bool) → (a && b) ≡ true → a ≡ true
and_first true b e = refl
and_first false b e = absurd (true≢false (sym e))

and_second : (a b : Bool) → (a && b) ≡ true → b ≡ true
and_second true b e = e
and_second false b e = absurd (true≢false (sym e))

itself : (n : ℕ) → (n == n) ≡ true
itself n = eq-eqb n n refl

and_true : (a b : Bool) → a ≡ true → b ≡ true → (a && b) ≡ true
and_true true b e f = f
and_true false b e f = absurd (true≢false (sym e))

equal_dim : (d e : Dim) → same_dim d e ≡ true → d ≡ e
equal_dim (Fixed m) (Fixed n) h = ap Fixed (eqb-true m n h)
equal_dim Dynamic Dynamic h = refl
equal_dim _ _ h = absurd (true≢false (sym h))

equal_dims : (ds es : List Dim) → same_dims ds es ≡ true → ds ≡ es
equal_dims [] [] h = refl
equal_dims (d ∷ ds) (e ∷ es) h =
    ap (λ x. x ∷ ds) (equal_dim d e (and_first (same_dim d e) (same_dims ds es) h)) ∙ ap (λ xs. e ∷ xs) (equal_dims ds es (and_second (same_dim d e) (same_dims ds es) h))
equal_dims _ _ h = absurd (true≢false (sym h))

mutual
  equal_type : (t u : PlainType) → same_type t u ≡ true → t ≡ u
  equal_type (Int m) (Int n) h = ap Int (eqb-true m n h)
  equal_type Index Index h = refl
  equal_type (Memref ds t) (Memref es u) h =
      ap (λ x. Memref x t) (equal_dims ds es (and_first (same_dims ds es) (same_type t u) h)) ∙ ap (Memref es) (equal_type t u (and_second (same_dims ds es) (same_type t u) h))
  equal_type (Func ts us) (Func vs ws) h =
      ap (λ x. Func x us) (equal_types ts vs (and_first (same_types ts vs) (same_types us ws) h)) ∙ ap (Func vs) (equal_types us ws (and_second (same_types ts vs) (same_types us ws) h))
  equal_type Ptr Ptr h = refl
  equal_type Void Void h = refl
  equal_type (Struct ts) (Struct us) h = ap Struct (equal_types ts us h)
  equal_type (Array m t) (Array n u) h = ap (λ x. Array x t) (eqb-true m n (and_first (m == n) (same_type t u) h)) ∙ ap (Array n) (equal_type t u (and_second (m == n) (same_type t u) h))
  equal_type (LlvmFunc t ts) (LlvmFunc u us) h =
      ap (λ x. LlvmFunc x ts) (equal_type t u (and_first (same_type t u) (same_types ts us) h)) ∙ ap (LlvmFunc u) (equal_types ts us (and_second (same_type t u) (same_types ts us) h))
  equal_type _ _ h = absurd (true≢false (sym h))

  equal_types : (ts us : PlainTypes) → same_types ts us ≡ true → ts ≡ us
  equal_types end_of_types end_of_types h = refl
  equal_types (more_types t ts) (more_types u us) h =
      ap (λ x. more_types x ts) (equal_type t u (and_first (same_type t u) (same_types ts us) h)) ∙ ap (more_types u) (equal_types ts us (and_second (same_type t u) (same_types ts us) h))
  equal_types _ _ h = absurd (true≢false (sym h))

same_dims_self : (ds : List Dim) → same_dims ds ds ≡ true
same_dims_self [] = refl
same_dims_self (Fixed n ∷ ds) = and_true (n == n) (same_dims ds ds) (itself n) (same_dims_self ds)
same_dims_self (Dynamic ∷ ds) = same_dims_self ds

mutual
  same_self : (t : PlainType) → same_type t t ≡ true
  same_self (Int m) = itself m
  same_self Index = refl
  same_self (Memref ds t) = and_true (same_dims ds ds) (same_type t t) (same_dims_self ds) (same_self t)
  same_self (Func ts us) = and_true (same_types ts ts) (same_types us us) (same_selves ts) (same_selves us)
  same_self Ptr = refl
  same_self Void = refl
  same_self (Struct ts) = same_selves ts
  same_self (Array m t) = and_true (m == m) (same_type t t) (itself m) (same_self t)
  same_self (LlvmFunc t ts) = and_true (same_type t t) (same_types ts ts) (same_self t) (same_selves ts)

  same_selves : (ts : PlainTypes) → same_types ts ts ≡ true
  same_selves end_of_types = refl
  same_selves (more_types t ts) = and_true (same_type t t) (same_types ts ts) (same_self t) (same_selves ts)

not_so : (b : Bool) → (b ≡ true → ⊥) → false ≡ b
not_so true h = absurd (h refl)
not_so false h = refl

-- a test that decides whether two types are the same
pub decides : (b : Bool) (t u : PlainType) → (b ≡ true → t ≡ u) → (t ≡ u → b ≡ true) → b ≡ same_type t u
decides true t u to from = sym (ap (same_type t) (sym (to refl)) ∙ same_self t)
decides false t u to from = not_so (same_type t u) (λ h. true≢false (sym (from (equal_type t u h))))
