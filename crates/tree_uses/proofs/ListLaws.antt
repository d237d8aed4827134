-- Items that are changed one by one, and lists that are taken from their end.
use Rattle.std.proofs.Common.{◌≡◌, ℕ, zero, suc, ◌<◌, ◌≤◌, ◌+◌, List, [], ◌∷◌, length, get_or, set, map, refl, ap, ◌∙◌, arith}

-- so many items are changed
abbrev pub front_changed : {X : Type 0} → (X → X) → ℕ → List X → List X
front_changed f zero xs = xs
front_changed f (suc n) [] = []
front_changed f (suc n) (x ∷ xs) = f x ∷ front_changed f n xs

pub all_changed : {X : Type 0} (f : X → X) (n : ℕ) (xs : List X) → length xs ≤ n → front_changed f n xs ≡ map f xs
all_changed f zero [] h = refl
all_changed f zero (x ∷ xs) h = absurd (omega (arith, h))
all_changed f (suc n) [] h = refl
all_changed f (suc n) (x ∷ xs) h = ap (λ ys. f x ∷ ys) (all_changed f n xs (omega (arith, h)))

pub next_same : {X : Type 0} (f : X → X) (n : ℕ) (xs : List X) (d : X) → n < length xs → get_or (front_changed f n xs) n d ≡ get_or xs n d
next_same f n [] d h = absurd (omega (arith, h))
next_same f zero (x ∷ xs) d h = refl
next_same f (suc n) (x ∷ xs) d h = next_same f n xs d (omega (arith, h))

set_next : {X : Type 0} (f : X → X) (n : ℕ) (xs : List X) (d : X) → n < length xs → set (front_changed f n xs) n (f (get_or xs n d)) ≡ front_changed f (suc n) xs
set_next f n [] d h = absurd (omega (arith, h))
set_next f zero (x ∷ xs) d h = refl
set_next f (suc n) (x ∷ xs) d h = ap (λ ys. f x ∷ ys) (set_next f n xs d (omega (arith, h)))

pub changed_length : {X : Type 0} (f : X → X) (n : ℕ) (xs : List X) → length (front_changed f n xs) ≡ length xs
changed_length f zero xs = refl
changed_length f (suc n) [] = refl
changed_length f (suc n) (x ∷ xs) = ap suc (changed_length f n xs)

-- a place is below the length
pub changed_below : {X : Type 0} (f : X → X) (n end : ℕ) (xs now : List X) → now ≡ front_changed f n xs → end ≡ length xs → n < end → n < length now
changed_below f n end xs now is count h =
    let e : length now ≡ length xs = ap length is ∙ changed_length f n xs in
    omega (arith, e, count, h)

-- the item at a place is changed
pub next_changed : {X : Type 0} (f : X → X) (n : ℕ) (xs now new : List X) (d v w : X) → n < length xs → now ≡ front_changed f n xs → v ≡ get_or now n d → w ≡ f v → new ≡ set now n w → new ≡ front_changed f (n + 1) xs
next_changed f n xs now new d v w h is item change put =
    let e : suc n ≡ n + 1 = omega arith in
    let same : v ≡ get_or xs n d = item ∙ ap (λ ys. get_or ys n d) is ∙ next_same f n xs d h in
    put ∙ ap (λ ys. set ys n w) is ∙ ap (set (front_changed f n xs) n) (change ∙ ap f same) ∙ set_next f n xs d h ∙ ap (λ k. front_changed f k xs) e

-- all of them are
pub changed_all : {X : Type 0} (f : X → X) (n end : ℕ) (xs now : List X) → now ≡ front_changed f n xs → end ≡ length xs → end ≤ n → now ≡ map f xs
changed_all f n end xs now is count h = is ∙ all_changed f n xs (omega (arith, count, h))
