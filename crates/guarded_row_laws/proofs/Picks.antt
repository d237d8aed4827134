-- The size at an index, picked by comparisons.
use Rattle.std.proofs.Common.{◌≡◌, ℕ, zero, suc, ◌+◌, ◌<◌, List, [], ◌∷◌, Some, true, false, refl, sym, ap, subst, ◌∙◌, arith}
use Rattle.std.specs.Prelude.{◌==◌, map, slice_get, if◌then◌else◌}
use Rattle.number_model.specs.Answers.{Gives}
use Rattle.operation_model.specs.Values.{Value, part_at, parts_at, size_path, counted}
use Rattle.row_laws.proofs.Values.{of_some, none_is}
use Rattle.row_laws.proofs.Steps.{of_gives}
use Rattle.call_row_laws.proofs.Fields.{First, first_part}

-- from the j-th on, the value at that index where there is one, else r
unfoldable pub pick : ℕ → ℕ → List Value → Value → Value
pick i j [] r = r
pick i j (s ∷ ss) r = pick i (j + 1) ss (if i == j then s else r)

other_number : (i j : ℕ) → i < j → (i == j) ≡ false
other_number i j h = grind arith

same_number : (i : ℕ) → (i == i) ≡ true
same_number i = grind arith

pub pick_before : (i j : ℕ) (ss : List Value) (r : Value) → i < j → pick i j ss r ≡ r
unfolding pick
pick_before i j [] r h = refl
pick_before i j (s ∷ ss) r h = ap (λ b. pick i (j + 1) ss (if b then s else r)) (other_number i j h) ∙ pick_before i (j + 1) ss r (omega (arith, h))

pub pick_at : (k j i : ℕ) (ss : List Value) (r v : Value) → i ≡ j + k → slice_get ss k ≡ Some v → pick i j ss r ≡ v
unfolding pick
pick_at k j i [] r v e h = absurd (none_is h)
pick_at zero j i (s ∷ ss) r v e h =
    let same : i ≡ j = omega (arith, e) in
    let b : (i == j) ≡ true = grind arith in
    ap (λ b. pick i (j + 1) ss (if b then s else r)) b ∙ pick_before i (j + 1) ss s (omega (arith, same)) ∙ of_some h
pick_at (suc k) j i (s ∷ ss) r v e h = pick_at k (j + 1) i ss (if i == j then s else r) v (omega (arith, e)) h

-- the part at an index is among those at all indices
pub part_among : (n j k : ℕ) (m v : Value) (ss : List Value) → parts_at (map size_path (counted j n)) m ≡ Gives ss → k < n → part_at (size_path (j + k)) m ≡ Gives v → slice_get ss k ≡ Some v
part_among zero j k m v ss parts less is = absurd (omega (arith, less))
part_among (suc n) j zero m v ss parts less is =
    let f : First (size_path j) (map size_path (counted (j + 1) n)) m ss = first_part (size_path j) _ m ss parts in
    let e : j + 0 ≡ j = omega arith in
    subst (λ ss. slice_get ss 0 ≡ Some v) f.is (ap Some (of_gives (sym f.first ∙ sym (ap (λ i. part_at (size_path i) m) e) ∙ is)))
part_among (suc n) j (suc k) m v ss parts less is =
    let f : First (size_path j) (map size_path (counted (j + 1) n)) m ss = first_part (size_path j) _ m ss parts in
    let e : j + suc k ≡ j + 1 + k = omega arith in
    subst (λ ss. slice_get ss (suc k) ≡ Some v) f.is (part_among n (j + 1) k m v f.rest f.others (omega (arith, less)) (sym (ap (λ i. part_at (size_path i) m) e) ∙ is))
