-- Parts of values, one layer at a time.
use Rattle.std.proofs.Common.{◌≡◌, ℕ, zero, suc, ◌+◌, ◌-◌, ◌≤◌, get_or, List, [], ◌∷◌, ◌++◌, take, drop, length, Option, Some, None, refl, sym, ap, ap₂, ◌∙◌, arith}
use Rattle.std.specs.Prelude.{Result, Ok, Err, IfOk}
use Rattle.std.specs.List.{slice_get}
use Rattle.std.proofs.lemmas.Option.{same_Some, none-some}
use Rattle.number_model.specs.Answers.{Answer, and_then, with_answer, present}
use Rattle.number_model.specs.Answers.{Answer as answer}
use Rattle.operation_model.specs.Values as model
use Rattle.value_code.specs.declared.value.Value.{Value}
use Rattle.value_code.specs.declared.value.Value as value
use Rattle.value_code.specs.Models.{value_of, values_of}
use Rattle.value_code.proofs.Shapes.{value_of-Integer, value_of-Pointer, value_of-Unset, value_of-Aggregate, values_of-parts_of}

pub get_values : (vs : List Value) (i : ℕ) (v : Value) → slice_get vs i ≡ Some v → slice_get (values_of vs) i ≡ Some (value_of v)
get_values [] i v e = absurd (none-some v e)
get_values (x ∷ vs) zero v e = ap (λ y. Some (value_of y)) (same_Some x v e)
get_values (x ∷ vs) (suc i) v e = get_values vs i v e

pub no_values : (vs : List Value) (i : ℕ) → slice_get vs i ≡ None → slice_get (values_of vs) i ≡ None
no_values [] i e = refl
no_values (x ∷ vs) zero e = absurd (none-some x (sym e))
no_values (x ∷ vs) (suc i) e = no_values vs i e

abbrev pub on_part : List ℕ → model.Value → List model.Value → ℕ → Option model.Value → Answer model.Value
on_part path part vs i o = and_then (present o) (λ old. with_answer (λ new. model.together (model.replaced vs i new)) (model.with_part path part old))

pub put_at : (i : ℕ) (path : List ℕ) (part : model.Value) (vs : List Value) (v : Value) → slice_get vs i ≡ Some v
    → model.with_part (i ∷ path) part (model.together (values_of vs)) ≡ with_answer (λ new. model.together (model.replaced (values_of vs) i new)) (model.with_part path part (value_of v))
put_at i path part vs v e =
    ap (λ l. on_part path part l i (slice_get l i)) (values_of-parts_of (values_of vs)) ∙ ap (on_part path part (values_of vs) i) (get_values vs i v e)

pub put_nowhere : (i : ℕ) (path : List ℕ) (part : model.Value) (vs : List Value) → slice_get vs i ≡ None
    → model.with_part (i ∷ path) part (model.together (values_of vs)) ≡ answer.Outside
put_nowhere i path part vs e =
    ap (λ l. on_part path part l i (slice_get l i)) (values_of-parts_of (values_of vs)) ∙ ap (on_part path part (values_of vs) i) (no_values vs i e)

map_take : (vs : List Value) (i : ℕ) → values_of (take i vs) ≡ take i (values_of vs)
map_take vs zero = refl
map_take [] (suc i) = refl
map_take (x ∷ vs) (suc i) = ap (λ l. value_of x ∷ l) (map_take vs i)

map_drop : (vs : List Value) (i : ℕ) → values_of (drop i vs) ≡ drop i (values_of vs)
map_drop vs zero = refl
map_drop [] (suc i) = refl
map_drop (x ∷ vs) (suc i) = map_drop vs i

map_append : (vs ws : List Value) → values_of (vs ++ ws) ≡ values_of vs ++ values_of ws
map_append [] ws = refl
map_append (x ∷ vs) ws = ap (λ l. value_of x ∷ l) (map_append vs ws)

-- the parts with another one at a place
pub replaced_values : (vs : List Value) (i : ℕ) (new : Value) → value_of (value.Aggregate (take i vs ++ new ∷ drop (i + 1) vs)) ≡ model.together (model.replaced (values_of vs) i (value_of new))
replaced_values vs i new =
    value_of-Aggregate (take i vs ++ new ∷ drop (i + 1) vs)
    ∙ ap model.together (map_append (take i vs) (new ∷ drop (i + 1) vs) ∙ ap₂ (λ xs ys. xs ++ value_of new ∷ ys) (map_take vs i) (map_drop vs (i + 1)))

pub ruleset inserts = (value_of-Integer, value_of-Pointer, value_of-Unset, value_of-Aggregate, put_at, put_nowhere, replaced_values)

pub if_ok : {T E : Type 0} {P Q : T → Type 0} (r : Result T E) → ((x : T) → P x → Q x) → IfOk r P → IfOk r Q
if_ok (Ok x) f p = f x p
if_ok (Err e) f p = tt

take_all : (xs : List ℕ) (n : ℕ) → n ≡ length xs → take n xs ≡ xs
take_all [] n e = rw e refl
take_all (x ∷ xs) zero e = absurd (omega (arith, e))
take_all (x ∷ xs) (suc n) e = ap (λ l. x ∷ l) (take_all xs n (omega (arith, e)))

-- the first number and the others
pub first_and_rest : (xs : List ℕ) → 1 ≤ length xs → get_or xs 0 0 ∷ take (length xs - 1) (drop 1 xs) ≡ xs
first_and_rest [] h = absurd (omega (arith, h))
first_and_rest (x ∷ xs) h = ap (λ l. x ∷ l) (take_all xs (suc (length xs) - 1) (omega arith))
