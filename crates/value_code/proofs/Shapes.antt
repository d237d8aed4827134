-- What each kind of value of the code stands for.
use Rattle.std.proofs.Common.{◌≡◌, ℕ, zero, suc, List, [], ◌∷◌, refl, sym, ap, ◌∙◌}
use Rattle.std.specs.List.{slice_get}
use Rattle.number_model.specs.Answers.{and_then, present}
use Rattle.operation_model.specs.Values as model
use Rattle.value_code.specs.declared.value.Value.{Value, out-Value, map-Value, fold_out-Value}
use Rattle.value_code.specs.declared.value.Value as value
use Rattle.value_code.specs.declared.value.Value.TheVariants as parts
use Rattle.value_code.specs.declared.value.Value.TheFolds.{fold-Value}
use Rattle.value_code.specs.Models.{part_of, value_at, value_of, values_of}

pub value_of-Integer : (n : ℕ) → value_of (value.Integer n) ≡ model.Integer n
unfolding value_of
value_of-Integer n = fold_out-Value model.Value value_at (value.Integer n) ∙ ap (λ x. value_at (map-Value Value model.Value (fold-Value model.Value value_at) x)) (parts.outs-Integer n)

pub value_of-Pointer : (b o : ℕ) → value_of (value.Pointer b o) ≡ model.Pointer b o
unfolding value_of
value_of-Pointer b o = fold_out-Value model.Value value_at (value.Pointer b o) ∙ ap (λ x. value_at (map-Value Value model.Value (fold-Value model.Value value_at) x)) (parts.outs-Pointer b o)

pub value_of-Unset : value_of value.Unset ≡ model.Unset
unfolding value_of
value_of-Unset = fold_out-Value model.Value value_at value.Unset ∙ ap (λ x. value_at (map-Value Value model.Value (fold-Value model.Value value_at) x)) parts.outs-Unset

pub value_of-Aggregate : (vs : List Value) → value_of (value.Aggregate vs) ≡ model.together (values_of vs)
unfolding value_of
value_of-Aggregate vs = fold_out-Value model.Value value_at (value.Aggregate vs) ∙ ap (λ x. value_at (map-Value Value model.Value (fold-Value model.Value value_at) x)) (parts.outs-Aggregate vs)

-- the parts of an aggregate, and the one at a place
pub values_of-parts_of : (vs : List model.Value) → model.values_of (model.parts_of vs) ≡ vs
values_of-parts_of [] = refl
values_of-parts_of (v ∷ vs) = ap (λ rest. v ∷ rest) (values_of-parts_of vs)

part_in : (vs : List Value) (i : ℕ) → part_of (slice_get vs i) ≡ and_then (present (slice_get (values_of vs) i)) (model.part_at [])
part_in [] i = refl
part_in (v ∷ vs) zero = refl
part_in (v ∷ vs) (suc i) = part_in vs i

pub part_is : (vs : List Value) (i : ℕ) → part_of (slice_get vs i) ≡ model.part_at (i ∷ []) (model.together (values_of vs))
part_is vs i = part_in vs i ∙ ap (λ l. and_then (present (slice_get l i)) (model.part_at [])) (sym (values_of-parts_of (values_of vs)))

pub ruleset shapes = (value_of-Integer, value_of-Pointer, value_of-Unset, value_of-Aggregate)
