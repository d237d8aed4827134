-- Structs of values: parts that are put in one after another.
use Rattle.std.proofs.Common.{◌≡◌, ℕ, zero, suc, ◌+◌, List, [], ◌∷◌, ◌++◌, length, Some, refl, sym, ap, ◌∙◌, arith}
use Rattle.std.specs.Prelude.{map, take, drop, slice_get}
use Rattle.tree_model.specs.declared.type_tree.TypeTree.{TypeTree, fold_out-TypeTree}
use Rattle.tree_model.specs.declared.type_tree.TypeTree as type
use Rattle.tree_model.specs.declared.type_tree.TypeTree.TheVariants.{outs-Struct}
use Rattle.number_model.specs.Answers.{Gives, and_then, present}
use Rattle.operation_model.specs.Values.{Value, Parts, NoPart, Part, values_of, parts_of, together, replaced, with_part, part_at}
use Rattle.form_model.specs.Types.{unset_of}

pub values_back : (vs : List Value) → values_of (parts_of vs) ≡ vs
values_back [] = refl
values_back (v ∷ vs) = ap (λ l. v ∷ l) (values_back vs)

pub parts_back : (ps : Parts) → parts_of (values_of ps) ≡ ps
parts_back NoPart = refl
parts_back (Part v ps) = ap (Part v) (parts_back ps)

-- the part in the middle of a list
pub middle_get : (done : List Value) (v : Value) (rest : List Value) (n : ℕ) → length done ≡ n → slice_get (done ++ v ∷ rest) n ≡ Some v
middle_get [] v rest n h = ap (slice_get (v ∷ rest)) (sym h)
middle_get (x ∷ done) v rest zero h = absurd (omega (arith, h))
middle_get (x ∷ done) v rest (suc n) h = middle_get done v rest n (omega (arith, h))

pub middle_replaced : (done : List Value) (old v : Value) (rest : List Value) (n : ℕ) → length done ≡ n → replaced (done ++ old ∷ rest) n v ≡ done ++ v ∷ rest
middle_replaced [] old v rest zero h = refl
middle_replaced [] old v rest (suc n) h = absurd (omega (arith, h))
middle_replaced (x ∷ done) old v rest zero h = absurd (omega (arith, h))
middle_replaced (x ∷ done) old v rest (suc n) h =
    let e : suc n + 1 ≡ suc (n + 1) = omega arith in
    ap (λ k. x ∷ (take n (done ++ old ∷ rest) ++ v ∷ drop k (x ∷ (done ++ old ∷ rest)))) e ∙ ap (λ l. x ∷ l) (middle_replaced done old v rest n (omega (arith, h)))

pub unset_struct : (fields : List TypeTree) → unset_of (type.Struct fields) ≡ together (map unset_of fields)
unset_struct fields = simp (fold_out-TypeTree, outs-Struct) refl

-- a part that is put in
pub part_put : (done : List Value) (old v : Value) (rest : List Value) (n : ℕ) → length done ≡ n → with_part (n ∷ []) v (together (done ++ old ∷ rest)) ≡ Gives (together (done ++ v ∷ rest))
part_put done old v rest n h =
    ap (λ vs. and_then (present (slice_get vs n)) (λ old. Gives (together (replaced vs n v)))) (values_back (done ++ old ∷ rest))
    ∙ ap (λ o. and_then (present o) (λ p. Gives (together (replaced (done ++ old ∷ rest) n v)))) (middle_get done old rest n h)
    ∙ ap (λ l. Gives (together l)) (middle_replaced done old v rest n h)

-- a part that is taken out
pub part_taken : (vs : List Value) (n : ℕ) (v : Value) → slice_get vs n ≡ Some v → part_at (n ∷ []) (together vs) ≡ Gives v
part_taken vs n v h = ap (λ vs. and_then (present (slice_get vs n)) (part_at [])) (values_back vs) ∙ ap (λ o. and_then (present o) (part_at [])) h
