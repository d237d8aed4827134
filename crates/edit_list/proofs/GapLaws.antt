-- What moves of the gap and writes at it leave of the numbers around it.
use Rattle.std.proofs.Common.{◌≡◌, ℕ, suc, ◌+◌, ◌-◌, ◌<◌, ◌≤◌, List, [], ◌∷◌, ◌++◌, length, get_or, set, take, drop, refl, sym, ap, ◌∙◌, append_assoc, append-nil, arith}
use Rattle.std.specs.Prelude.{insert, remove}
use Rattle.std.proofs.lemmas.List.{take-set-le, drop-set, drop-set-lt, take_more, take_more_set, drop_more, drop-drop, drop_all, take_at, drop_at, length-take-le, length-drop, length-append, get_or-take, get_or-drop, get_or_append_left, get_or-append_right, take-append-drop}
use Rattle.std.proofs.lemmas.Grind.{common_steps}
use Rattle.edit_list.specs.Listed.{around}

-- the number before the gap goes behind it
back_by : (xs : List ℕ) (s e : ℕ) → s ≤ e → e < length xs → around (set xs e (get_or xs s 0)) s e ≡ around xs (s + 1) (e + 1)
back_by xs s e h k = let l : s < length xs = omega arith in
    ap (λ xs'. xs' ++ drop e (set xs e (get_or xs s 0))) (take-set-le s xs e (get_or xs s 0) h)
    ∙ ap (λ ys. take s xs ++ ys) (drop-set xs e (get_or xs s 0) k)
    ∙ sym (append_assoc (take s xs) (get_or xs s 0 ∷ []) (drop (e + 1) xs))
    ∙ ap (λ xs'. xs' ++ drop (e + 1) xs) (sym (take_more xs s 0 l))

pub moved_back : (xs : List ℕ) (s e : ℕ) → 0 < s → s ≤ e → e ≤ length xs → around (set xs (e - 1) (get_or xs (s - 1) 0)) (s - 1) (e - 1) ≡ around xs s e
moved_back xs s e p h k =
    let a : s - 1 + 1 ≡ s = omega arith in
    let b : e - 1 + 1 ≡ e = omega arith in
    back_by xs (s - 1) (e - 1) (omega arith) (omega arith) ∙ ap (λ x. around xs x (e - 1 + 1)) a ∙ ap (λ x. around xs s x) b

-- the number behind the gap goes before it
pub moved_on : (xs : List ℕ) (s e : ℕ) → s ≤ e → e < length xs → around (set xs s (get_or xs e 0)) (s + 1) (e + 1) ≡ around xs s e
moved_on xs s e h k = let l : s < length xs = omega arith in
    ap (λ xs'. xs' ++ drop (e + 1) (set xs s (get_or xs e 0))) (take_more_set xs s (get_or xs e 0) l)
    ∙ ap (λ ys. (take s xs ++ get_or xs e 0 ∷ []) ++ ys) (drop-set-lt (e + 1) xs s (get_or xs e 0) (omega arith))
    ∙ append_assoc (take s xs) (get_or xs e 0 ∷ []) (drop (e + 1) xs)
    ∙ ap (λ ys. take s xs ++ ys) (sym (drop_more xs e 0 k))

front_length : (xs : List ℕ) (s e : ℕ) → s ≤ e → e ≤ length xs → length (take s xs) ≡ s
front_length xs s e h k = length-take-le s xs (omega arith)

pub front_of : (xs : List ℕ) (s e : ℕ) → s ≤ e → e ≤ length xs → take s (around xs s e) ≡ take s xs
front_of xs s e h k = take_at (take s xs) (drop e xs) s (front_length xs s e h k)

pub back_of : (xs : List ℕ) (s e : ℕ) → s ≤ e → e ≤ length xs → drop s (around xs s e) ≡ drop e xs
back_of xs s e h k = drop_at (take s xs) (drop e xs) s (front_length xs s e h k)

-- a number is written at the start of the gap
pub filled : (xs : List ℕ) (s e y : ℕ) → s < e → e ≤ length xs → around (set xs s y) (s + 1) e ≡ insert (around xs s e) s y
filled xs s e y h k = let l : s < length xs = omega arith in let m : s ≤ e = omega arith in
    ap (λ xs'. xs' ++ drop e (set xs s y)) (take_more_set xs s y l)
    ∙ ap (λ ys. (take s xs ++ y ∷ []) ++ ys) (drop-set-lt e xs s y h)
    ∙ append_assoc (take s xs) (y ∷ []) (drop e xs)
    ∙ ap (λ xs'. xs' ++ (y ∷ drop e xs)) (sym (front_of xs s e m k))
    ∙ ap (λ ys. take s (around xs s e) ++ (y ∷ ys)) (sym (back_of xs s e m k))

-- the gap takes in the number behind it
pub cut : (xs : List ℕ) (s e : ℕ) → s ≤ e → e < length xs → around xs s (e + 1) ≡ remove (around xs s e) s
cut xs s e h k = let m : e ≤ length xs = omega arith in let n : s + 1 ≡ suc s = omega arith in
    ap (λ xs'. xs' ++ drop (e + 1) xs) (sym (front_of xs s e h m))
    ∙ ap (λ ys. take s (around xs s e) ++ ys) (sym (drop-drop 1 e xs) ∙ ap (drop 1) (sym (back_of xs s e h m)) ∙ drop-drop 1 s (around xs s e) ∙ ap (λ x. drop x (around xs s e)) n)

-- a gap behind all that is there
pub behind_all : (xs ys : List ℕ) (n : ℕ) → n ≡ length (xs ++ ys) → around (xs ++ ys) (length xs) n ≡ xs
behind_all xs ys n h = ap (λ xs'. xs' ++ drop n (xs ++ ys)) (take_at xs ys (length xs) refl)
    ∙ ap (λ ys. xs ++ ys) (drop_all n (xs ++ ys) (omega arith)) ∙ append-nil xs

pub no_gap : (xs : List ℕ) (s : ℕ) → around xs s s ≡ xs
no_gap xs s = take-append-drop s xs

pub around_length : (xs : List ℕ) (s e : ℕ) → s ≤ e → e ≤ length xs → length (around xs s e) ≡ s + (length xs - e)
around_length xs s e h k = omega (arith, length-append (take s xs) (drop e xs), front_length xs s e h k, length-drop e xs)

pub all_behind : (xs : List ℕ) (s : ℕ) → around xs s (length xs) ≡ take s xs
all_behind xs s = ap (λ ys. take s xs ++ ys) (drop_all (length xs) xs (omega arith)) ∙ append-nil (take s xs)

pub at_front : (xs : List ℕ) (s e k : ℕ) → s ≤ e → e ≤ length xs → k < s → get_or (around xs s e) k 0 ≡ get_or xs k 0
at_front xs s e k h m l = let n : k < length (take s xs) = omega (arith, front_length xs s e h m) in
    get_or_append_left (take s xs) (drop e xs) 0 k n ∙ get_or-take s xs k 0 l

pub at_back : (xs : List ℕ) (s e k : ℕ) → s ≤ e → e ≤ length xs → s ≤ k → get_or (around xs s e) k 0 ≡ get_or xs (k - s + e) 0
at_back xs s e k h m l =
    get_or-append_right (take s xs) (drop e xs) s k 0 (front_length xs s e h m) l ∙ get_or-drop e xs (k - s) 0 ∙ ap (λ x. get_or xs x 0) (omega arith)

pub ruleset gap_laws = (common_steps, moved_back, moved_on, front_of, back_of, filled, cut, behind_all, no_gap, around_length, all_behind, at_front, at_back)
