-- The search as it goes on, and at its end.
use Rattle.std.proofs.Common.{◌≡◌, ℕ, zero, suc, ◌+◌, ◌==◌, ◌<◌, ◌≤◌, Bool, true, false, List, [], ◌∷◌, ◌++◌, length, get_or, take, refl, sym, ap, subst, ◌∙◌, true≢false, inl, inr, arith}
use Rattle.std.specs.Prelude.{◌⊎◌, ◌||◌, ◌↔◌, replicate, if◌then◌else◌}
use Rattle.std.proofs.lemmas.List.{length-append, length-map, length-replicate, take_all}
use Rattle.std.specs.Global.{Vec}
use Rattle.rule_model.specs.Words.{has}
use Rattle.block_search.specs.Reach.{Agrees, Marks, Reached, begins, follows, followed, rows, unmarked}
use Rattle.block_search.proofs.Marking.{in_either, in_first, in_second, is_one, one_is}

-- what stands: the first nodes, so many, are those whose followers have marks
pub record Going (next : ℕ → List ℕ) (starts : List ℕ) (count : ℕ) (marks : List Bool) (order : List ℕ) (place : ℕ) : Type 0 where
  pub agrees : Agrees marks order
  pub size : length marks ≡ count
  pub within : place ≤ length order
  pub sound : (k : ℕ) → has k order ≡ true → Reached next starts k
  pub begun : (k : ℕ) → has k starts ≡ true → k < count → has k order ≡ true
  pub done : (k t : ℕ) → has k (take place order) ≡ true → has t (next k) ≡ true → t < count → has t order ≡ true

-- At the start

none_marked : (n : ℕ) → unmarked (replicate n false) ≡ n
none_marked zero = refl
none_marked (suc n) = let rest = none_marked n in omega (arith, rest)

never : (n k : ℕ) → get_or (replicate n false) k false ≡ false
never zero k = refl
never (suc n) zero = refl
never (suc n) (suc k) = never n k

pub agrees_blank : (n : ℕ) → Agrees (replicate n false) []
agrees_blank n = record {
  inside = λ k h. absurd (true≢false (sym h ∙ never n k));
  marked = λ k h. absurd (true≢false (sym h));
  counted =
      let all = none_marked n in
      let size = length-replicate n false in
      omega (arith, all, size);
}

going_first : (next : ℕ → List ℕ) (starts : List ℕ) (count : ℕ) (marks : List Bool) (order : List ℕ)
    → Marks (replicate count false) [] starts marks order → Going next starts count marks order 0
going_first next starts count marks order m = record {
  agrees = m.agrees (agrees_blank count);
  size = m.size ∙ length-replicate count false;
  within = omega arith;
  sound = λ k h. begins k (m.from k (subst (λ o. has k o ≡ true) m.is h));
  begun = λ k h less. m.whole (agrees_blank count) k h (let size = length-replicate count false in omega (arith, size, less));
  done = λ k t h. absurd (true≢false (sym h));
}

-- One node on

in_front : (k p : ℕ) (xs ys : List ℕ) → p < length xs → has k (take (suc p) (xs ++ ys)) ≡ true → (has k (take p xs) ≡ true) ⊎ (get_or xs p 0 ≡ k)
in_front k p [] ys less h = absurd (omega (arith, less))
in_front k zero (x ∷ xs) ys less h = inr (is_one k x h)
in_front k (suc p) (x ∷ xs) ys less h = go (x == k) h (λ e. in_front k p xs ys (omega (arith, less)) e)
  where
    go : (b : Bool) → (b || has k (take (suc p) (xs ++ ys))) ≡ true
        → (has k (take (suc p) (xs ++ ys)) ≡ true → (has k (take p xs) ≡ true) ⊎ (get_or xs p 0 ≡ k))
        → ((b || has k (take p xs)) ≡ true) ⊎ (get_or xs p 0 ≡ k)
    go true e rest = inl refl
    go false e rest = rest e

has_at : (xs : List ℕ) (p : ℕ) → p < length xs → has (get_or xs p 0) xs ≡ true
has_at [] p less = absurd (omega (arith, less))
has_at (x ∷ xs) zero less = in_first x (x ∷ []) xs (one_is x x refl)
has_at (x ∷ xs) (suc p) less = in_second (get_or xs p 0) (x ∷ []) xs (has_at xs p (omega (arith, less)))

pub going_on : (next : ℕ → List ℕ) (starts : List ℕ) (count : ℕ) (marks : List Bool) (order : List ℕ) (place : ℕ) (node : ℕ) (new_marks : List Bool) (new_order : List ℕ)
    → Going next starts count marks order place → place < length order → node ≡ get_or order place 0
    → Marks marks order (next node) new_marks new_order → Going next starts count new_marks new_order (place + 1)
going_on next starts count marks order place node new_marks new_order g less at m = record {
  agrees = m.agrees g.agrees;
  size = m.size ∙ g.size;
  within =
      let size = ap (λ o. length o) m.is ∙ length-append order m.added in
      omega (arith, size, less);
  sound = λ k h. elim (in_either k order m.added (subst (λ o. has k o ≡ true) m.is h)) [
    | inl old ↦ g.sound k old
    | inr new ↦ follows node k (g.sound node (subst (λ j. has j order ≡ true) (sym at) (has_at order place less))) (m.from k new)
  ];
  begun = λ k h inner. kept k (g.begun k h inner);
  done = λ k t h f inner. elim (in_front k place order m.added less (subst (λ o. has k o ≡ true) (ap (λ o. take (suc place) o) m.is) (one_more k h))) [
    | inl old ↦ kept t (g.done k t old f inner)
    | inr here ↦ m.whole g.agrees t (subst (λ j. has t (next j) ≡ true) (sym (at ∙ here)) f) (let size = g.size in omega (arith, size, inner))
  ];
}
  where
    one_more : (k : ℕ) → has k (take (place + 1) new_order) ≡ true → has k (take (suc place) new_order) ≡ true
    one_more k h = let e : place + 1 ≡ suc place = omega arith in subst (λ j. has k (take j new_order) ≡ true) e h

    kept : (k : ℕ) → has k order ≡ true → has k new_order ≡ true
    kept k h = subst (λ o. has k o ≡ true) (sym m.is) (in_first k order m.added h)

-- At the end

-- what is followed is a node
abbrev pub Bounded : (ℕ → List ℕ) → ℕ → Type 0
Bounded next count = (m k : ℕ) → has k (next m) ≡ true → m < count

found : (next : ℕ → List ℕ) (starts : List ℕ) (count : ℕ) (marks : List Bool) (order : List ℕ) (place : ℕ) → Going next starts count marks order place
    → length order ≤ place → Bounded next count → (k : ℕ) → Reached next starts k → k < count → has k order ≡ true
found next starts count marks order place g most bounded k (begins _ h) less = g.begun k h less
found next starts count marks order place g most bounded k (follows m _ r h) less =
    let inner = found next starts count marks order place g most bounded m r (bounded m k h) in
    g.done m k (subst (λ o. has m o ≡ true) (sym (take_all place order most)) inner) h less

pub exact : (next : ℕ → List ℕ) (starts : List ℕ) (count : ℕ) (marks : List Bool) (order : List ℕ) (place : ℕ) → Going next starts count marks order place
    → length order ≤ place → Bounded next count → (k : ℕ) → k < count → (get_or marks k false ≡ true) ↔ Reached next starts k
exact next starts count marks order place g most bounded k less =
    (λ h. g.sound k (g.agrees.inside k h), λ r. g.agrees.marked k (found next starts count marks order place g most bounded k r less))

no_row : (edges : List (List ℕ)) (m k : ℕ) → has k (get_or edges m []) ≡ true → m < length edges
no_row [] m k h = absurd (true≢false (sym h))
no_row (e ∷ edges) zero k h = omega arith
no_row (e ∷ edges) (suc m) k h = let rest = no_row edges m k h in omega (arith, rest)

pub bounded : (edges : List (List ℕ)) (left_out : ℕ) → Bounded (followed edges left_out) (length edges)
bounded edges left_out m k h = go (m == left_out) h
  where
    go : (b : Bool) → has k (if b then [] else get_or edges m []) ≡ true → m < length edges
    go true e = absurd (true≢false (sym e))
    go false e = no_row edges m k e

pub going_start : (next : ℕ → List ℕ) (starts : List ℕ) (count : ℕ) (first_marks : List Bool) (first_order : List ℕ) (marks : List Bool) (order : List ℕ)
    → first_marks ≡ replicate count false → first_order ≡ [] → Marks first_marks first_order starts marks order → Going next starts count marks order 0
going_start next starts count first_marks first_order marks order e f m =
    going_first next starts count marks order (subst (λ ms. Marks ms [] starts marks order) e (subst (λ o. Marks first_marks o starts marks order) f m))

pub no_followed : (edges : List (List ℕ)) (left_out n : ℕ) → length edges ≤ n → followed edges left_out n ≡ []
no_followed edges left_out n most = go (n == left_out)
  where
    nothing : (es : List (List ℕ)) (k : ℕ) → length es ≤ k → get_or es k [] ≡ []
    nothing [] k h = refl
    nothing (e ∷ es) zero h = absurd (omega (arith, h))
    nothing (e ∷ es) (suc k) h = nothing es k (omega (arith, h))

    go : (b : Bool) → (if b then [] else get_or edges n []) ≡ []
    go true = refl
    go false = nothing edges n most

pub rows_count : (edges : List (Vec ℕ)) → length (rows edges) ≡ length edges
rows_count edges = length-map edges (λ row. row.items)

pub bounded_rows : (edges : List (Vec ℕ)) (left_out : ℕ) → Bounded (followed (rows edges) left_out) (length edges)
bounded_rows edges left_out m k h = subst (λ n. m < n) (rows_count edges) (bounded (rows edges) left_out m k h)
