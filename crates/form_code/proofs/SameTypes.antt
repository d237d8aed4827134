-- Two types are the same where they are equal.
use Rattle.std.proofs.Common.{◌≡◌, ℕ, Bool, true, false, ◌&&◌, List, [], ◌∷◌, map, refl, sym, ap, ap₂, ◌∙◌, subst, true≢false}
use Rattle.std.specs.Prelude.{◌==◌}
use Rattle.std.proofs.lemmas.Bool.Decides.{Decides-eqb, same_from_decides}
use Rattle.tree_model.specs.declared.type_tree.Dim.{Dim}
use Rattle.tree_model.specs.declared.type_tree.Dim.TheVariants.{Fixed, Dynamic}
use Rattle.tree_model.specs.declared.type_tree.TypeTree.{TypeTree, roll-TypeTree, out-TypeTree, map-TypeTree, roll-out-TypeTree, out-roll-TypeTree}
use Rattle.tree_model.specs.declared.type_tree.TypeTree.TheOpen.{TypeTree-F}
use Rattle.tree_model.specs.declared.type_tree.TypeTree.TheFolds.{ind-TypeTree, fold-roll-TypeTree}
use Rattle.form_model.specs.Types.{same_type, same_at, all_same, same_dim, same_dims}

both : (a b : Bool) → (a && b) ≡ true → (a ≡ true) × (b ≡ true)
both true true h = (refl, refl)
both true false h = absurd (true≢false (sym h))
both false b h = absurd (true≢false (sym h))

together : (a b : Bool) → a ≡ true → b ≡ true → (a && b) ≡ true
together a b g h = rw (g, h) refl

equal : (m n : ℕ) → (m == n) ≡ true → m ≡ n
equal m n h = (Decides-eqb m n).0 h

itself : (n : ℕ) → (n == n) ≡ true
itself n = (Decides-eqb n n).1 refl

equal_dim : (d e : Dim) → same_dim d e ≡ true → d ≡ e
equal_dim (Fixed m) (Fixed n) h = ap Fixed (equal m n h)
equal_dim Dynamic Dynamic h = refl
equal_dim (Fixed m) Dynamic h = absurd (true≢false (sym h))
equal_dim Dynamic (Fixed n) h = absurd (true≢false (sym h))

equal_dims : (ds es : List Dim) → same_dims ds es ≡ true → ds ≡ es
equal_dims [] [] h = refl
equal_dims (d ∷ ds) (e ∷ es) h = let p = both (same_dim d e) (same_dims ds es) h in ap₂ (λ x xs. x ∷ xs) (equal_dim d e p.0) (equal_dims ds es p.1)
equal_dims [] (e ∷ es) h = absurd (true≢false (sym h))
equal_dims (d ∷ ds) [] h = absurd (true≢false (sym h))

dims_themselves : (ds : List Dim) → same_dims ds ds ≡ true
dims_themselves [] = refl
dims_themselves (Fixed n ∷ ds) = together (n == n) (same_dims ds ds) (itself n) (dims_themselves ds)
dims_themselves (Dynamic ∷ ds) = dims_themselves ds

same_is : (x : TypeTree-F TypeTree) (u : TypeTree) → same_type (roll-TypeTree x) u ≡ same_at (map-TypeTree TypeTree (TypeTree → Bool) same_type x) (out-TypeTree u)
same_is x u = ap (λ f. f u) (fold-roll-TypeTree (TypeTree → Bool) (λ level t. same_at level (out-TypeTree t)) x)

-- what is the same is equal
abbrev Sound : TypeTree → Type 0
Sound t = (u : TypeTree) → same_type t u ≡ true → t ≡ u

abbrev Kept : Type 0
Kept = (t : TypeTree) × Sound t

abbrev kept : Kept → TypeTree
kept k = k.0

all_equal : (ks : List Kept) (us : List TypeTree) → all_same (map same_type (map kept ks)) us ≡ true → map kept ks ≡ us
all_equal [] [] h = refl
all_equal (k ∷ ks) (u ∷ us) h =
    let p = both (same_type k.0 u) (all_same (map same_type (map kept ks)) us) h in ap₂ (λ x xs. x ∷ xs) (k.1 u p.0) (all_equal ks us p.1)
all_equal [] (u ∷ us) h = absurd (true≢false (sym h))
all_equal (k ∷ ks) [] h = absurd (true≢false (sym h))

equal_layer : (y : TypeTree-F Kept) (v : TypeTree-F TypeTree) → same_at (map-TypeTree TypeTree (TypeTree → Bool) same_type (map-TypeTree Kept TypeTree kept y)) v ≡ true → map-TypeTree Kept TypeTree kept y ≡ v
equal_layer (TypeTree-F.Int m) (TypeTree-F.Int n) h = ap TypeTree-F.Int (equal m n h)
equal_layer TypeTree-F.Index TypeTree-F.Index h = refl
equal_layer (TypeTree-F.Memref ds k) (TypeTree-F.Memref es t) h =
    let p = both (same_dims ds es) (same_type k.0 t) h in ap₂ TypeTree-F.Memref (equal_dims ds es p.0) (k.1 t p.1)
equal_layer (TypeTree-F.Func fs gs) (TypeTree-F.Func ts us) h =
    let p = both (all_same (map same_type (map kept fs)) ts) (all_same (map same_type (map kept gs)) us) h in
    ap₂ TypeTree-F.Func (all_equal fs ts p.0) (all_equal gs us p.1)
equal_layer TypeTree-F.Ptr TypeTree-F.Ptr h = refl
equal_layer TypeTree-F.Void TypeTree-F.Void h = refl
equal_layer (TypeTree-F.Struct fs) (TypeTree-F.Struct ts) h = ap TypeTree-F.Struct (all_equal fs ts h)
equal_layer (TypeTree-F.Array m k) (TypeTree-F.Array n t) h =
    let p = both (m == n) (same_type k.0 t) h in ap₂ TypeTree-F.Array (equal m n p.0) (k.1 t p.1)
equal_layer (TypeTree-F.LlvmFunc k fs) (TypeTree-F.LlvmFunc t ts) h =
    let p = both (same_type k.0 t) (all_same (map same_type (map kept fs)) ts) h in ap₂ TypeTree-F.LlvmFunc (k.1 t p.0) (all_equal fs ts p.1)
equal_layer _ _ h = absurd (true≢false (sym h))

sound : (t : TypeTree) → Sound t
sound = ind-TypeTree Sound (λ x y is u h.
    ap roll-TypeTree (subst (λ (z : TypeTree-F TypeTree). same_at (map-TypeTree TypeTree (TypeTree → Bool) same_type z) (out-TypeTree u) ≡ true → z ≡ out-TypeTree u) is (equal_layer y (out-TypeTree u)) (sym (same_is x u) ∙ h))
    ∙ roll-out-TypeTree u)

-- and each type is the same as itself
abbrev Complete : TypeTree → Type 0
Complete t = same_type t t ≡ true

abbrev Found : Type 0
Found = (t : TypeTree) × Complete t

abbrev found : Found → TypeTree
found k = k.0

all_complete : (ks : List Found) → all_same (map same_type (map found ks)) (map found ks) ≡ true
all_complete [] = refl
all_complete (k ∷ ks) = together (same_type k.0 k.0) (all_same (map same_type (map found ks)) (map found ks)) k.1 (all_complete ks)

complete_layer : (y : TypeTree-F Found) → same_at (map-TypeTree TypeTree (TypeTree → Bool) same_type (map-TypeTree Found TypeTree found y)) (map-TypeTree Found TypeTree found y) ≡ true
complete_layer (TypeTree-F.Int n) = itself n
complete_layer TypeTree-F.Index = refl
complete_layer (TypeTree-F.Memref ds k) = together (same_dims ds ds) (same_type k.0 k.0) (dims_themselves ds) k.1
complete_layer (TypeTree-F.Func fs gs) =
    together (all_same (map same_type (map found fs)) (map found fs)) (all_same (map same_type (map found gs)) (map found gs)) (all_complete fs) (all_complete gs)
complete_layer TypeTree-F.Ptr = refl
complete_layer TypeTree-F.Void = refl
complete_layer (TypeTree-F.Struct fs) = all_complete fs
complete_layer (TypeTree-F.Array n k) = together (n == n) (same_type k.0 k.0) (itself n) k.1
complete_layer (TypeTree-F.LlvmFunc k fs) =
    together (same_type k.0 k.0) (all_same (map same_type (map found fs)) (map found fs)) k.1 (all_complete fs)

complete : (t : TypeTree) → Complete t
complete = ind-TypeTree Complete (λ x y is.
    same_is x (roll-TypeTree x)
    ∙ ap (λ z. same_at (map-TypeTree TypeTree (TypeTree → Bool) same_type x) z) (out-roll-TypeTree x)
    ∙ subst (λ (z : TypeTree-F TypeTree). same_at (map-TypeTree TypeTree (TypeTree → Bool) same_type z) z ≡ true) is (complete_layer y))

pub decides_same : (t u : TypeTree) (b : Bool) → ((b ≡ true → t ≡ u) × (t ≡ u → b ≡ true)) → b ≡ same_type t u
decides_same t u b d = same_from_decides b (same_type t u) d (λ h. sound t u h, λ e. subst (λ v. same_type t v ≡ true) e (complete t))
