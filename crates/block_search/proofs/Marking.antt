-- Nodes that get marks.
use Rattle.std.proofs.Common.{◌≡◌, ℕ, zero, suc, ◌+◌, ◌==◌, ◌<◌, ◌≤◌, Bool, true, false, List, [], ◌∷◌, ◌++◌, length, get_or, set, take, refl, sym, ap, subst, ◌∙◌, append_assoc, true≢false, arith}
use Rattle.std.specs.Prelude.{◌||◌, ◌⊎◌}
use Rattle.std.proofs.Common.{inl, inr}
use Rattle.std.proofs.lemmas.List.{append-nil, get_or-set_same, get_or-set_other, length-set, length-append}
use Rattle.std.proofs.lemmas.Bool.{eqb-true, eq-eqb}
use Rattle.rule_model.specs.Words.{has}
use Rattle.block_search.specs.Reach.{Agrees, Marks, unmarked}

-- Numbers in lists

pub has_joined : (k : ℕ) (xs ys : List ℕ) → has k (xs ++ ys) ≡ (has k xs || has k ys)
has_joined k [] ys = refl
has_joined k (x ∷ xs) ys = go (x == k) (has_joined k xs ys)
  where
    go : (b : Bool) → has k (xs ++ ys) ≡ (has k xs || has k ys) → (b || has k (xs ++ ys)) ≡ ((b || has k xs) || has k ys)
    go true e = refl
    go false e = e

or_cases : (a b : Bool) → (a || b) ≡ true → (a ≡ true) ⊎ (b ≡ true)
or_cases true b e = inl refl
or_cases false b e = inr e

or_left : (a b : Bool) → a ≡ true → (a || b) ≡ true
or_left true b e = refl
or_left false b e = absurd (true≢false (sym e))

or_right : (a b : Bool) → b ≡ true → (a || b) ≡ true
or_right true b e = refl
or_right false b e = e

pub in_either : (k : ℕ) (xs ys : List ℕ) → has k (xs ++ ys) ≡ true → (has k xs ≡ true) ⊎ (has k ys ≡ true)
in_either k xs ys e = or_cases (has k xs) (has k ys) (sym (has_joined k xs ys) ∙ e)

pub in_first : (k : ℕ) (xs ys : List ℕ) → has k xs ≡ true → has k (xs ++ ys) ≡ true
in_first k xs ys e = has_joined k xs ys ∙ or_left (has k xs) (has k ys) e

pub in_second : (k : ℕ) (xs ys : List ℕ) → has k ys ≡ true → has k (xs ++ ys) ≡ true
in_second k xs ys e = has_joined k xs ys ∙ or_right (has k xs) (has k ys) e

pub is_one : (k n : ℕ) → has k (n ∷ []) ≡ true → n ≡ k
is_one k n e = elim (or_cases (n == k) false e) [ inl h ↦ eqb-true n k h | inr h ↦ absurd (true≢false (sym h)) ]

pub one_is : (k n : ℕ) → n ≡ k → has k (n ∷ []) ≡ true
one_is k n e = or_left (n == k) false (eq-eqb n k e)

-- Marks

pub unmarked_less : (marks : List Bool) (n : ℕ) → n < length marks → get_or marks n false ≡ false → unmarked (set marks n true) + 1 ≡ unmarked marks
unmarked_less [] n less e = absurd (omega (arith, less))
unmarked_less (true ∷ marks) zero less e = absurd (true≢false e)
unmarked_less (false ∷ marks) zero less e = refl
unmarked_less (true ∷ marks) (suc n) less e = unmarked_less marks n (omega (arith, less)) e
unmarked_less (false ∷ marks) (suc n) less e = let rest = unmarked_less marks n (omega (arith, less)) e in omega (arith, rest)

pub beyond : (marks : List Bool) (n : ℕ) → length marks ≤ n → get_or marks n false ≡ false
beyond [] n most = refl
beyond (m ∷ marks) zero most = absurd (omega (arith, most))
beyond (m ∷ marks) (suc n) most = beyond marks n (omega (arith, most))

agrees_more : (marks : List Bool) (order : List ℕ) (n : ℕ) → n < length marks → get_or marks n false ≡ false → Agrees marks order → Agrees (set marks n true) (order ++ n ∷ [])
agrees_more marks order n less e a = record {
  inside = λ k h. go k (n == k) refl h;
  marked = λ k h. elim (in_either k order (n ∷ []) h) [ inl old ↦ still k (n == k) refl old | inr new ↦ here k (is_one k n new) ];
  counted =
      let left = unmarked_less marks n less e in
      let size = length-set marks n true in
      let more = length-append order (n ∷ []) in
      let was = a.counted in
      omega (arith, left, size, more, was);
}
  where
    other : (k : ℕ) → (n == k) ≡ false → k ≡ n → ⊥
    other k f same = true≢false (sym (eq-eqb n k (sym same)) ∙ f)

    go : (k : ℕ) (b : Bool) → (n == k) ≡ b → get_or (set marks n true) k false ≡ true → has k (order ++ n ∷ []) ≡ true
    go k true f h = in_second k order (n ∷ []) (one_is k n (eqb-true n k f))
    go k false f h = in_first k order (n ∷ []) (a.inside k (sym (get_or-set_other marks n k true false (other k f)) ∙ h))

    here : (k : ℕ) → n ≡ k → get_or (set marks n true) k false ≡ true
    here k same = subst (λ j. get_or (set marks n true) j false ≡ true) same (get_or-set_same marks n true false less)

    still : (k : ℕ) (b : Bool) → (n == k) ≡ b → has k order ≡ true → get_or (set marks n true) k false ≡ true
    still k true f old = here k (eqb-true n k f)
    still k false f old = get_or-set_other marks n k true false (other k f) ∙ a.marked k old

pub marks_none : (marks : List Bool) (order : List ℕ) → Marks marks order [] marks order
marks_none marks order = record {
  added = [];
  is = sym (append-nil order);
  from = λ k h. absurd (true≢false (sym h));
  whole = λ a k h less. absurd (true≢false (sym h));
  size = refl;
  agrees = λ a. a;
}

-- a number that is no node, and a node that has its mark
pub marks_beyond : (marks : List Bool) (order : List ℕ) (n : ℕ) → length marks ≤ n → Marks marks order (n ∷ []) marks order
marks_beyond marks order n most = record {
  added = [];
  is = sym (append-nil order);
  from = λ k h. absurd (true≢false (sym h));
  whole = λ a k h less. let same = is_one k n h in absurd (omega (arith, same, less, most));
  size = refl;
  agrees = λ a. a;
}

pub marks_again : (marks : List Bool) (order : List ℕ) (n : ℕ) → get_or marks n false ≡ true → Marks marks order (n ∷ []) marks order
marks_again marks order n e = record {
  added = [];
  is = sym (append-nil order);
  from = λ k h. absurd (true≢false (sym h));
  whole = λ a k h less. a.inside k (subst (λ j. get_or marks j false ≡ true) (is_one k n h) e);
  size = refl;
  agrees = λ a. a;
}

pub marks_new : (marks : List Bool) (order : List ℕ) (n : ℕ) → n < length marks → get_or marks n false ≡ false → Marks marks order (n ∷ []) (set marks n true) (order ++ n ∷ [])
marks_new marks order n less e = record {
  added = n ∷ [];
  is = refl;
  from = λ k h. h;
  whole = λ a k h inner. in_second k order (n ∷ []) h;
  size = length-set marks n true;
  agrees = λ a. agrees_more marks order n less e a;
}

-- one step behind others
pub marks_joined : {marks : List Bool} {order xs : List ℕ} {between : List Bool} {order_between : List ℕ} {ys : List ℕ} {after : List Bool} {order_after : List ℕ}
    → Marks marks order xs between order_between → Marks between order_between ys after order_after → Marks marks order (xs ++ ys) after order_after
marks_joined {order = order} {xs = xs} {order_between = order_between} {ys = ys} {order_after = order_after} a b = record {
  added = a.added ++ b.added;
  is = b.is ∙ ap (λ o. o ++ b.added) a.is ∙ append_assoc order a.added b.added;
  from = λ k h. elim (in_either k a.added b.added h) [ inl old ↦ in_first k xs ys (a.from k old) | inr new ↦ in_second k xs ys (b.from k new) ];
  whole = λ agrees k h less. elim (in_either k xs ys h) [
    | inl old ↦ subst (λ o. has k o ≡ true) (sym b.is) (in_first k order_between b.added (a.whole agrees k old less))
    | inr new ↦ b.whole (a.agrees agrees) k new (let size = a.size in omega (arith, size, less))
  ];
  size = b.size ∙ a.size;
  agrees = λ agrees. b.agrees (a.agrees agrees);
}

-- Reading a mark

pub read_false : (marks : List Bool) (n : ℕ) (r : Bool) → r ≡ get_or marks n r → r ≡ false → get_or marks n false ≡ false
read_false marks n r e f = subst (λ b. get_or marks n b ≡ b) f (sym e)

pub read_true : (marks : List Bool) (n : ℕ) (r : Bool) → n < length marks → r ≡ get_or marks n r → r ≡ true → get_or marks n false ≡ true
read_true marks n r less e t = any_default marks n less (subst (λ b. get_or marks n b ≡ b) t (sym e))
  where
    any_default : (ms : List Bool) (k : ℕ) → k < length ms → get_or ms k true ≡ true → get_or ms k false ≡ true
    any_default [] k h g = absurd (omega (arith, h))
    any_default (m ∷ ms) zero h g = g
    any_default (m ∷ ms) (suc k) h g = any_default ms k (omega (arith, h)) g

pub same_order : {marks : List Bool} {order nodes : List ℕ} {new_marks : List Bool} (old new : List ℕ) → new ≡ old → Marks marks order nodes new_marks old → Marks marks order nodes new_marks new
same_order {marks = marks} {order = order} {nodes = nodes} {new_marks = new_marks} old new e m = subst (λ o. Marks marks order nodes new_marks o) (sym e) m

-- one node more of a list
pub front_more : (nodes : List ℕ) (i n : ℕ) → i < length nodes → n ≡ get_or nodes i 0 → take i nodes ++ n ∷ [] ≡ take (i + 1) nodes
front_more [] i n less e = absurd (omega (arith, less))
front_more (x ∷ nodes) zero n less e = ap (λ y. y ∷ []) e ∙ first (x ∷ nodes)
  where
    first : (ys : List ℕ) → take 1 (x ∷ nodes) ≡ take (0 + 1) (x ∷ nodes)
    first ys = let one : 1 ≡ 0 + 1 = omega arith in ap (λ j. take j (x ∷ nodes)) one
front_more (x ∷ nodes) (suc i) n less e = ap (λ rest. x ∷ rest) (front_more nodes i n (omega (arith, less)) e) ∙ next
  where
    next : take (suc (i + 1)) (x ∷ nodes) ≡ take (suc i + 1) (x ∷ nodes)
    next = let same : suc (i + 1) ≡ suc i + 1 = omega arith in ap (λ j. take j (x ∷ nodes)) same

pub read_at : (xs : List ℕ) (n r : ℕ) → n < length xs → r ≡ get_or xs n r → r ≡ get_or xs n 0
read_at [] n r less e = absurd (omega (arith, less))
read_at (x ∷ xs) zero r less e = e
read_at (x ∷ xs) (suc n) r less e = read_at xs n r (omega (arith, less)) e

pub marks_nothing : (marks : List Bool) (order nodes : List ℕ) → nodes ≡ [] → Marks marks order nodes marks order
marks_nothing marks order nodes e = subst (λ ns. Marks marks order ns marks order) (sym e) (marks_none marks order)
