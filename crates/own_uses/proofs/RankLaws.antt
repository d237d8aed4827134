-- No cycle goes through a node that is followed by nodes of lower rank alone.
use Rattle.std.proofs.Common.{◌≡◌, inl, inr, ℕ, zero, suc, ◌+◌, ◌==◌, ◌<◌, ◌≤◌, Bool, true, false, List, [], ◌∷◌, length, get_or, Some, None, refl, sym, ap, ◌∙◌, subst, true≢false, arith}
use Rattle.std.specs.Prelude.{◌⊎◌, ◌||◌, ◌↔◌, nat_le, nat_lt, if◌then◌else◌}
use Rattle.std.specs.Global.{Vec}
use Rattle.block_search.proofs.Going.{rows_count}
use Rattle.std.specs.List.{list_all}
use Rattle.std.proofs.lemmas.Bool.{cases_order, eqb-true, leb-true, ltb-true}
use Rattle.rule_model.specs.Words.{has}
use Rattle.rule_model.proofs.Numbers.{and_first, and_second}
use Rattle.block_search.specs.Reach.{Reached, begins, followed, follows, rows}
use Rattle.own_uses.specs.Ranks.{all_fall, falls, FirstOnCycle, is_apart, OnCycle, rank_of}

each : (p : ℕ → Bool) (n : ℕ) (ns : List ℕ) → list_all p ns ≡ true → has n ns ≡ true → p n ≡ true
each p n [] all h = absurd (true≢false (sym h))
each p n (m ∷ ns) all h = go (m == n) refl h (λ k. each p n ns (and_second (p m) (list_all p ns) all) k)
  where
    go : (b : Bool) → (m == n) ≡ b → (b || has n ns) ≡ true → (has n ns ≡ true → p n ≡ true) → p n ≡ true
    go true e k rest = ap p (sym (eqb-true m n e)) ∙ and_first (p m) (list_all p ns) all
    go false e k rest = rest k

row_falls : (ranks : List ℕ) (m n : ℕ) (row : List ℕ) → falls ranks m row ≡ true → has n row ≡ true → rank_of ranks n ≤ rank_of ranks m
row_falls ranks m n row f h = leb-true (rank_of ranks n) (rank_of ranks m) (each (λ j. nat_le (rank_of ranks j) (rank_of ranks m)) n row f h)

row_apart : (ranks : List ℕ) (m n : ℕ) (row : List ℕ) → is_apart ranks m row ≡ true → has n row ≡ true → rank_of ranks n < rank_of ranks m
row_apart ranks m n row f h = ltb-true (rank_of ranks n) (rank_of ranks m) (each (λ j. nat_lt (rank_of ranks j) (rank_of ranks m)) n row f h)

falls_at : (ranks : List ℕ) (n : ℕ) (edges : List (List ℕ)) (m : ℕ) → all_fall ranks n edges ≡ true → m < length edges → falls ranks (n + m) (get_or edges m []) ≡ true
falls_at ranks n [] m all less = absurd (omega (arith, less))
falls_at ranks n (row ∷ edges) zero all less =
    let zero_on : n ≡ n + 0 = omega arith in subst (λ k. falls ranks k row ≡ true) zero_on (and_first (falls ranks n row) (all_fall ranks (n + 1) edges) all)
falls_at ranks n (row ∷ edges) (suc m) all less =
    let on : n + 1 + m ≡ n + suc m = omega arith in
    subst (λ k. falls ranks k (get_or edges m []) ≡ true) on (falls_at ranks (n + 1) edges m (and_second (falls ranks n row) (all_fall ranks (n + 1) edges) all) (omega (arith, less)))

inside : (edges : List (List ℕ)) (m n : ℕ) → has n (get_or edges m []) ≡ true → m < length edges
inside [] m n h = absurd (true≢false (sym h))
inside (row ∷ edges) zero n h = omega arith
inside (row ∷ edges) (suc m) n h = let rest = inside edges m n h in omega (arith, rest)

step_falls : (ranks : List ℕ) (edges : List (List ℕ)) (m n : ℕ) → all_fall ranks 0 edges ≡ true → has n (get_or edges m []) ≡ true → rank_of ranks n ≤ rank_of ranks m
step_falls ranks edges m n all h =
    let zero_on : 0 + m ≡ m = omega arith in
    row_falls ranks m n (get_or edges m []) (subst (λ k. falls ranks k (get_or edges m []) ≡ true) zero_on (falls_at ranks 0 edges m all (inside edges m n h))) h

path_falls : (ranks : List ℕ) (edges : List (List ℕ)) (p q : ℕ) → all_fall ranks 0 edges ≡ true → is_apart ranks p (get_or edges p []) ≡ true
    → Reached (followed edges (length edges)) (get_or edges p []) q → rank_of ranks q < rank_of ranks p
path_falls ranks edges p q all apart (begins _ h) = row_apart ranks p q (get_or edges p []) apart h
path_falls ranks edges p q all apart (follows m _ r h) =
    let lower = path_falls ranks edges p m all apart r in
    let last = step_falls ranks edges m q all (go (m == length edges) h) in
    omega (arith, lower, last)
  where
    go : (b : Bool) → has q (if b then [] else get_or edges m []) ≡ true → has q (get_or edges m []) ≡ true
    go true k = absurd (true≢false (sym k))
    go false k = k

pub no_cycle : (ranks : List ℕ) (edges : List (List ℕ)) (p : ℕ) → all_fall ranks 0 edges ≡ true → is_apart ranks p (get_or edges p []) ≡ true → OnCycle edges p → ⊥
no_cycle ranks edges p all apart r = let lower = path_falls ranks edges p p all apart r in omega (arith, lower)

-- A search from what follows a node

row_items : (edges : List (Vec ℕ)) (n : ℕ) (d : Vec ℕ) → n < length edges → get_or (rows edges) n [] ≡ (get_or edges n d).items
row_items [] n d less = absurd (omega (arith, less))
row_items (e ∷ edges) zero d less = refl
row_items (e ∷ edges) (suc n) d less = row_items edges n d (omega (arith, less))

pub on_cycle_by : (edges : List (Vec ℕ)) (n : ℕ) (starts : List ℕ) (out : ℕ) (marks : List Bool) (b : Bool) → n < length edges → starts ≡ get_or (rows edges) n [] → out ≡ length edges
    → ((k : ℕ) → k < length edges → (get_or marks k false ≡ true) ↔ Reached (followed (rows edges) out) starts k)
    → b ≡ get_or marks n false → (b ≡ true) ↔ OnCycle (rows edges) n
on_cycle_by edges n starts out marks b less s o exact is =
    let e : out ≡ length (rows edges) = o ∙ sym (rows_count edges) in
    let two : (get_or marks n false ≡ true) ↔ OnCycle (rows edges) n =
    subst (λ k. (get_or marks n false ≡ true) ↔ Reached (followed (rows edges) k) (get_or (rows edges) n []) n) e
    (subst (λ ns. (get_or marks n false ≡ true) ↔ Reached (followed (rows edges) out) ns n) s (exact n less)) in
    (λ h. two.0 (sym is ∙ h), λ r. is ∙ two.1 r)

pub items_of : (edges : List (Vec ℕ)) (n : ℕ) (x : Vec ℕ) (starts : List ℕ) → n < length edges → x ≡ get_or edges n x → starts ≡ x.items → starts ≡ get_or (rows edges) n []
items_of edges n x starts less at is = is ∙ ap (λ (v : Vec ℕ). v.items) at ∙ sym (row_items edges n x less)

-- The first node on a cycle, so far

abbrev pub NoneBefore : List (Vec ℕ) → ℕ → Type 0
NoneBefore edges n = (k : ℕ) → k < n → OnCycle (rows edges) k → ⊥

pub first_here : (edges : List (Vec ℕ)) (n : ℕ) (b : Bool) → n < length edges → ((b ≡ true) ↔ OnCycle (rows edges) n) → b ≡ true → NoneBefore edges n → FirstOnCycle (rows edges) (Some n)
first_here edges n b less tells e before = (let size = rows_count edges in omega (arith, size, less), tells.0 e, before)

pub none_here : (edges : List (Vec ℕ)) (n : ℕ) (b : Bool) → ((b ≡ true) ↔ OnCycle (rows edges) n) → b ≡ false → NoneBefore edges n → NoneBefore edges (n + 1)
none_here edges n b tells e before = λ k less r. go k r (cases_order k n) less
  where
    go : (k : ℕ) → OnCycle (rows edges) k → (k ≡ n) ⊎ ((k < n) ⊎ (n < k)) → k < n + 1 → ⊥
    go k r (inl same) less = true≢false (sym (tells.1 (subst (OnCycle (rows edges)) same r)) ∙ e)
    go k r (inr (inl below)) less = before k below r
    go k r (inr (inr above)) less = omega (arith, above, less)

pub none_there : (edges : List (Vec ℕ)) (n : ℕ) → length edges ≤ n → NoneBefore edges n → FirstOnCycle (rows edges) None
none_there edges n most before = λ k less r. before k (let size = rows_count edges in omega (arith, size, less, most)) r
