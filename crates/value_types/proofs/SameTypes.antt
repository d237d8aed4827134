-- The test of types decides whether they are the same.
use Rattle.std.proofs.Common.{◌≡◌, ◌==◌, Bool, true, false, List, [], ◌∷◌, map, length, refl, sym, ap, ◌∙◌, subst, true≢false, arith}
use Rattle.std.specs.Prelude.{◌&&◌, ◌↔◌, IsTrue}
use Rattle.std.specs.Borrow.{Bor}
use Rattle.std.proofs.lemmas.Bool.{eqb-true}
use Rattle.std.proofs.lemmas.Bool.Decides.{same_from_decides}
use Rattle.tree_model.specs.declared.type_tree.TypeTree.{TypeTree}
use Rattle.tree_model.specs.declared.type_tree.Dim.{Dim}
use Rattle.tree_model.specs.declared.type_tree.Dim.TheVariants.{Fixed, Dynamic}
use Rattle.plain_tree.specs.Types.{PlainType, PlainTypes, Int, Index, Memref, Func, Ptr, Void, Struct, Array, LlvmFunc, end_of_types, more_types, same_dim, same_dims, same_type, same_types, plain_type, type_tree}
use Rattle.plain_tree.proofs.TypeTrip.{type_trip}
use Rattle.rule_model.specs.Forms.{may_be_dim, may_be_dims, same_all}
use Rattle.value_types.specs.Views.{plain_types}
use Rattle.rule_model.proofs.Numbers.{and_first, and_second, itself}

pub and_true : (a b : Bool) → a ≡ true → b ≡ true → (a && b) ≡ true
and_true true b e f = f
and_true false b e f = absurd (true≢false (sym e))

equal_dim : (d e : Dim) → same_dim d e ≡ true → d ≡ e
equal_dim (Fixed m) (Fixed n) h = ap Fixed (eqb-true m n h)
equal_dim Dynamic Dynamic h = refl
equal_dim _ _ h = absurd (true≢false (sym h))

equal_dims : (ds es : List Dim) → same_dims ds es ≡ true → ds ≡ es
equal_dims [] [] h = refl
equal_dims (d ∷ ds) (e ∷ es) h =
    ap (λ x. x ∷ ds) (equal_dim d e (and_first (same_dim d e) (same_dims ds es) h)) ∙ ap (λ xs. e ∷ xs) (equal_dims ds es (and_second (same_dim d e) (same_dims ds es) h))
equal_dims _ _ h = absurd (true≢false (sym h))

mutual
  pub equal_type : (t u : PlainType) → same_type t u ≡ true → t ≡ u
  equal_type (Int m) (Int n) h = ap Int (eqb-true m n h)
  equal_type Index Index h = refl
  equal_type (Memref ds t) (Memref es u) h =
      ap (λ x. Memref x t) (equal_dims ds es (and_first (same_dims ds es) (same_type t u) h)) ∙ ap (Memref es) (equal_type t u (and_second (same_dims ds es) (same_type t u) h))
  equal_type (Func ts us) (Func vs ws) h =
      ap (λ x. Func x us) (equal_types ts vs (and_first (same_types ts vs) (same_types us ws) h)) ∙ ap (Func vs) (equal_types us ws (and_second (same_types ts vs) (same_types us ws) h))
  equal_type Ptr Ptr h = refl
  equal_type Void Void h = refl
  equal_type (Struct ts) (Struct us) h = ap Struct (equal_types ts us h)
  equal_type (Array m t) (Array n u) h = ap (λ x. Array x t) (eqb-true m n (and_first (m == n) (same_type t u) h)) ∙ ap (Array n) (equal_type t u (and_second (m == n) (same_type t u) h))
  equal_type (LlvmFunc t ts) (LlvmFunc u us) h =
      ap (λ x. LlvmFunc x ts) (equal_type t u (and_first (same_type t u) (same_types ts us) h)) ∙ ap (LlvmFunc u) (equal_types ts us (and_second (same_type t u) (same_types ts us) h))
  equal_type _ _ h = absurd (true≢false (sym h))

  equal_types : (ts us : PlainTypes) → same_types ts us ≡ true → ts ≡ us
  equal_types end_of_types end_of_types h = refl
  equal_types (more_types t ts) (more_types u us) h =
      ap (λ x. more_types x ts) (equal_type t u (and_first (same_type t u) (same_types ts us) h)) ∙ ap (more_types u) (equal_types ts us (and_second (same_type t u) (same_types ts us) h))
  equal_types _ _ h = absurd (true≢false (sym h))

same_dims_self : (ds : List Dim) → same_dims ds ds ≡ true
same_dims_self [] = refl
same_dims_self (Fixed n ∷ ds) = and_true (n == n) (same_dims ds ds) (itself n) (same_dims_self ds)
same_dims_self (Dynamic ∷ ds) = same_dims_self ds

mutual
  pub same_self : (t : PlainType) → same_type t t ≡ true
  same_self (Int m) = itself m
  same_self Index = refl
  same_self (Memref ds t) = and_true (same_dims ds ds) (same_type t t) (same_dims_self ds) (same_self t)
  same_self (Func ts us) = and_true (same_types ts ts) (same_types us us) (same_selves ts) (same_selves us)
  same_self Ptr = refl
  same_self Void = refl
  same_self (Struct ts) = same_selves ts
  same_self (Array m t) = and_true (m == m) (same_type t t) (itself m) (same_self t)
  same_self (LlvmFunc t ts) = and_true (same_type t t) (same_types ts ts) (same_self t) (same_selves ts)

  same_selves : (ts : PlainTypes) → same_types ts ts ≡ true
  same_selves end_of_types = refl
  same_selves (more_types t ts) = and_true (same_type t t) (same_types ts ts) (same_self t) (same_selves ts)

-- what decides whether two trees are equal decides whether their plain forms are the same
pub decides : (t u : TypeTree) (b : Bool) → IsTrue b ↔ (t ≡ u) → b ≡ same_type (plain_type t) (plain_type u)
decides t u b d =
    same_from_decides b (same_type (plain_type t) (plain_type u)) d (
      λ h. sym (type_trip t) ∙ ap type_tree (equal_type (plain_type t) (plain_type u) h) ∙ type_trip u,
      λ e. subst (λ v. same_type (plain_type t) (plain_type v) ≡ true) e (same_self (plain_type t)),
    )

-- Lists of other lengths

other_count : (ts us : List PlainType) → (length ts ≡ length us → ⊥) → false ≡ same_all ts us
other_count [] [] h = absurd (h refl)
other_count [] (u ∷ us) h = refl
other_count (t ∷ ts) [] h = refl
other_count (t ∷ ts) (u ∷ us) h = go (same_type t u) (other_count ts us (λ e. h (omega (arith, e))))
  where
    go : (b : Bool) → false ≡ same_all ts us → false ≡ (b && same_all ts us)
    go true e = e
    go false e = refl

count_of : (ts : List (Bor TypeTree)) → length (plain_types ts) ≡ length ts
count_of [] = refl
count_of (t ∷ ts) = let e = count_of ts in omega (arith, e)

count_in : (ts : List TypeTree) → length (map plain_type ts) ≡ length ts
count_in [] = refl
count_in (t ∷ ts) = let e = count_in ts in omega (arith, e)

pub other_types : (ts us : List (Bor TypeTree)) → (length ts ≡ length us → ⊥) → false ≡ same_all (plain_types ts) (plain_types us)
other_types ts us h = other_count (plain_types ts) (plain_types us) (λ e. h (sym (count_of ts) ∙ e ∙ count_of us))

pub other_types_in : (ts : List (Bor TypeTree)) (us : List TypeTree) → (length ts ≡ length us → ⊥) → false ≡ same_all (plain_types ts) (map plain_type us)
other_types_in ts us h = other_count (plain_types ts) (map plain_type us) (λ e. h (sym (count_of ts) ∙ e ∙ count_in us))

pub other_dims : (ds es : List Dim) → (length ds ≡ length es → ⊥) → false ≡ may_be_dims ds es
other_dims [] [] h = absurd (h refl)
other_dims [] (e ∷ es) h = refl
other_dims (d ∷ ds) [] h = refl
other_dims (d ∷ ds) (e ∷ es) h = go (may_be_dim d e) (other_dims ds es (λ k. h (omega (arith, k))))
  where
    go : (b : Bool) → false ≡ may_be_dims ds es → false ≡ (b && may_be_dims ds es)
    go true k = k
    go false k = refl
