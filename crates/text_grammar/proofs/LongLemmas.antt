-- The value of digits only grows.
use Rattle.std.proofs.Common.{◌≡◌, ℕ, zero, suc, ◌+◌, ◌*◌, ◌<◌, ◌≤◌, true, false, List, [], ◌∷◌, length, drop, get_or, arith, rules}
use Rattle.std.specs.Prelude.{nat_le}
use Rattle.std.proofs.lemmas.List.{drop_all, drop_more}
use Rattle.text_grammar.specs.TokenKinds.{value_from, digit_value}

times_more : (value base : ℕ) → 1 ≤ base → value ≤ value * base
times_more value zero h = omega arith
times_more value (suc k) h = grind arith

grows : (base value : ℕ) (digits : List ℕ) → 1 ≤ base → value ≤ value_from base value digits
grows base value [] h = omega arith
grows base value (b ∷ bs) h =
    let a : value ≤ value * base = times_more value base h in
    let c : value * base + digit_value b ≤ value_from base (value * base + digit_value b) bs = grows base (value * base + digit_value b) bs h in
    omega arith

is_le : (a b : ℕ) → a ≤ b → true ≡ nat_le a b
is_le a b h = search (arith, rules)

is_not_le : (a b : ℕ) → b < a → false ≡ nat_le a b
is_not_le a b h = search (arith, rules)

-- a number that has grown over the limit is above it
pub over : (limit base value : ℕ) (digits : List ℕ) (i : ℕ) → 1 ≤ base → i < length digits → (value * base + digit_value (get_or digits i 0) < limit → ⊥)
    → value_from base value (drop i digits) ≡ value_from base 0 digits → true ≡ nat_le limit (value_from base 0 digits)
over limit base value digits i h within big same =
    let next = value * base + digit_value (get_or digits i 0) in
    let e : value_from base next (drop (i + 1) digits) ≡ value_from base 0 digits = rw (drop_more digits i 0 within) at same in
    let g : next ≤ value_from base next (drop (i + 1) digits) = grows base next (drop (i + 1) digits) h in
    is_le limit (value_from base 0 digits) (rw (← e) (omega (arith, big)))

pub under : (limit base value : ℕ) (digits : List ℕ) (i : ℕ) → length digits ≤ i → value < limit
    → value_from base value (drop i digits) ≡ value_from base 0 digits → false ≡ nat_le limit (value_from base 0 digits)
under limit base value digits i past small same =
    let e : value ≡ value_from base 0 digits = rw (drop_all i digits past) at same in
    is_not_le limit (value_from base 0 digits) (rw (← e) small)
