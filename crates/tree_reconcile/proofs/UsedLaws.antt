-- The values that are used in the end: one pass over the lines from the last to the first finds them.
use Rattle.std.proofs.Common.{◌≡◌, ℕ, ◌==◌, Bool, true, false, List, [], ◌∷◌, refl, sym, ap, subst, ◌∙◌, true≢false}
use Rattle.std.specs.Prelude.{◌||◌, ◌&&◌, not, if◌then◌else◌}
use Rattle.std.specs.List.{list_all, list_any}
use Rattle.std.proofs.lemmas.Bool.{eqb-true}
use Rattle.plain_tree.specs.Types.{PlainType}
use Rattle.plain_tree.specs.Ops.{Values}
use Rattle.tree_reconcile.specs.Lines.{Line, among, any_used, is_forward, is_result, is_unused, used_by_others, with_line, with_lines}
use Rattle.tree_reconcile.proofs.Bools.{and_true, any_more, both_true, by_cases, clash, not_false, not_true, or_cases, or_left, or_right, same_number}

-- whether a line for which the test doesn't hold has the value among its operands
abbrev pub uses_kept : (Line → Bool) → List Line → ℕ → Bool
uses_kept t ls v = list_any (λ l. not (t l) && among v l.operands) ls

-- exactly those values are used that are operands of lines that stay
pub record Settled (U : ℕ → Bool) (ls : List Line) : Type 0 where
  pub inside : (v : ℕ) → uses_kept (is_unused U) ls v ≡ true → U v ≡ true
  pub only : (v : ℕ) → U v ≡ true → uses_kept (is_unused U) ls v ≡ true

-- Lines in order

among_all : (p : ℕ → Bool) (vs : List ℕ) (v : ℕ) → list_all (λ u. not (p u)) vs ≡ true → among v vs ≡ true → p v ≡ false
among_all p [] v all is = absurd (true≢false (sym is))
among_all p (u ∷ vs) v all is =
    let parts = and_true (not (p u)) (list_all (λ u. not (p u)) vs) all in
    or_cases (u == v) (among v vs) is (λ h. subst (λ n. p n ≡ false) (eqb-true u v h) (not_true (p u) parts.0)) (λ h. among_all p vs v parts.1 h)

-- an operand of a cast is no result of that cast or of one behind it
pub operand_apart : (l : Line) (ls : List Line) (v : ℕ) → is_forward (l ∷ ls) ≡ true → l.is_cast ≡ true → among v l.operands ≡ true → is_result (l ∷ ls) v ≡ false
operand_apart l ls v forward cast is =
    let parts = and_true (is_forward ls) (not l.is_cast || list_all (λ u. not (is_result (l ∷ ls) u)) l.operands) forward in
    among_all (is_result (l ∷ ls)) l.operands v (sym (ap (λ b. not b || list_all (λ u. not (is_result (l ∷ ls) u)) l.operands) cast) ∙ parts.1) is

pub behind_forward : (l : Line) (ls : List Line) → is_forward (l ∷ ls) ≡ true → is_forward ls ≡ true
behind_forward l ls forward = (and_true (is_forward ls) (not l.is_cast || list_all (λ u. not (is_result (l ∷ ls) u)) l.operands) forward).0

pub own_result : (l : Line) (ls : List Line) (v : ℕ) → l.is_cast ≡ true → list_any (λ (r : ℕ × PlainType). r.0 == v) l.results ≡ true → is_result (l ∷ ls) v ≡ true
own_result l ls v cast is =
    or_left (l.is_cast && list_any (λ (r : ℕ × PlainType). r.0 == v) l.results) (is_result ls v) (both_true l.is_cast (list_any (λ (r : ℕ × PlainType). r.0 == v) l.results) cast is)

pub behind_result : (l : Line) (ls : List Line) (v : ℕ) → is_result ls v ≡ true → is_result (l ∷ ls) v ≡ true
behind_result l ls v is = or_right (l.is_cast && list_any (λ (r : ℕ × PlainType). r.0 == v) l.results) (is_result ls v) is

not_operand : (l : Line) (ls : List Line) (v : ℕ) → is_forward (l ∷ ls) ≡ true → is_result (l ∷ ls) v ≡ true → l.is_cast ≡ true → among v l.operands ≡ false
not_operand l ls v forward result cast = by_cases (among v l.operands) (λ h. clash (is_result (l ∷ ls) v) result (operand_apart l ls v forward cast h)) (λ h. h)

-- one of these results is used, where each of them that one test finds the other one finds
pub any_among : (p q : ℕ → Bool) (rs : Values) → ((v : ℕ) → list_any (λ (r : ℕ × PlainType). r.0 == v) rs ≡ true → p v ≡ true → q v ≡ true) → any_used p rs ≡ true → any_used q rs ≡ true
any_among p q [] more e = e
any_among p q (r ∷ rs) more e =
    or_cases (p r.0) (any_used p rs) e
    (λ h. or_left (q r.0) (any_used q rs) (more r.0 (or_left (r.0 == r.0) (list_any (λ (s : ℕ × PlainType). s.0 == r.0) rs) (same_number r.0)) h))
    (λ h. or_right (q r.0) (any_used q rs) (any_among p q rs (λ v is. more v (or_right (r.0 == v) (list_any (λ (s : ℕ × PlainType). s.0 == v) rs) is)) h))

-- The pass

with_line_was : (l : Line) (V : ℕ → Bool) (v : ℕ) → V v ≡ true → with_line l V v ≡ true
with_line_was l V v is = by_test (l.is_cast && any_used V l.results)
  where
    by_test : (b : Bool) → (let W : ℕ → Bool = if b then (λ u. among u l.operands || V u) else V in W v) ≡ true
    by_test true = or_right (among v l.operands) (V v) is
    by_test false = is

-- what a line adds are its operands, if it is a cast
with_line_more : (l : Line) (V : ℕ → Bool) (v : ℕ) → with_line l V v ≡ true → (l.is_cast ≡ true → among v l.operands ≡ false) → V v ≡ true
with_line_more l V v is other = by_test (l.is_cast && any_used V l.results) refl is
  where
    by_test : (b : Bool) → (l.is_cast && any_used V l.results) ≡ b → (let W : ℕ → Bool = if b then (λ u. among u l.operands || V u) else V in W v) ≡ true → V v ≡ true
    by_test true e h = or_cases (among v l.operands) (V v) h (λ a. clash (among v l.operands) a (other (and_true l.is_cast (any_used V l.results) e).0)) (λ a. a)
    by_test false e h = h

with_line_adds : (l : Line) (V : ℕ → Bool) (v : ℕ) → l.is_cast ≡ true → any_used V l.results ≡ true → among v l.operands ≡ true → with_line l V v ≡ true
with_line_adds l V v cast used is =
    ap (λ b. let W : ℕ → Bool = if b then (λ u. among u l.operands || V u) else V in W v) (both_true l.is_cast (any_used V l.results) cast used) ∙ or_left (among v l.operands) (V v) is

with_line_cases : {P : Type 0} (l : Line) (V : ℕ → Bool) (v : ℕ) → with_line l V v ≡ true → (V v ≡ true → P) → (l.is_cast ≡ true → any_used V l.results ≡ true → among v l.operands ≡ true → P) → P
with_line_cases {P = P} l V v is was added = by_test (l.is_cast && any_used V l.results) refl is
  where
    by_test : (b : Bool) → (l.is_cast && any_used V l.results) ≡ b → (let W : ℕ → Bool = if b then (λ u. among u l.operands || V u) else V in W v) ≡ true → P
    by_test true e h =
        let parts = and_true l.is_cast (any_used V l.results) e in
        or_cases (among v l.operands) (V v) h (λ a. added parts.0 parts.1 a) was
    by_test false e h = was h

module _ (B U : ℕ → Bool) where
  -- what is known of the last lines
  record Behind (xs : List Line) : Type 0 where
    forward : is_forward xs ≡ true
    more : (v : ℕ) → with_lines xs B v ≡ true → U v ≡ true
    results : (v : ℕ) → is_result xs v ≡ true → U v ≡ true → with_lines xs B v ≡ true
    others : (v : ℕ) → used_by_others xs v ≡ true → U v ≡ true

  behind : (l : Line) (xs : List Line) → Behind (l ∷ xs) → Behind xs
  behind l xs b = record {
    forward = behind_forward l xs b.forward;
    more = λ v h. b.more v (with_line_was l (with_lines xs B) v h);
    results = λ v result h.
        let all : is_result (l ∷ xs) v ≡ true = behind_result l xs v result in
        with_line_more l (with_lines xs B) v (b.results v all h) (not_operand l xs v b.forward all);
    others = λ v h. b.others v (or_right (not l.is_cast && among v l.operands) (used_by_others xs v) h);
  }

  -- a cast is kept in the pass if it is kept in the end
  decided : (l : Line) (xs : List Line) → Behind (l ∷ xs) → l.is_cast ≡ true → any_used U l.results ≡ true → any_used (with_lines xs B) l.results ≡ true
  decided l xs b cast used =
      any_among U (with_lines xs B) l.results (λ v is h.
      let all : is_result (l ∷ xs) v ≡ true = own_result l xs v cast is in
      with_line_more l (with_lines xs B) v (b.results v all h) (not_operand l xs v b.forward all)) used

  -- operands of lines that stay are used
  stay_used : (xs : List Line) → Behind xs → (v : ℕ) → uses_kept (is_unused U) xs v ≡ true → U v ≡ true
  stay_used [] b v e = absurd (true≢false (sym e))
  stay_used (l ∷ xs) b v e =
      or_cases (not (is_unused U l) && among v l.operands) (uses_kept (is_unused U) xs v) e
      (λ h. let parts = and_true (not (is_unused U l)) (among v l.operands) h in
      by_cases l.is_cast
      (λ cast. by_cases (any_used U l.results)
      (λ used. b.more v (with_line_adds l (with_lines xs B) v cast (decided l xs b cast used) parts.1))
      (λ unused. clash (is_unused U l) (both_true l.is_cast (not (any_used U l.results)) cast (not_false (any_used U l.results) unused)) (not_true (is_unused U l) parts.0)))
      (λ other. b.others v (or_left (not l.is_cast && among v l.operands) (used_by_others xs v) (both_true (not l.is_cast) (among v l.operands) (not_false l.is_cast other) parts.1))))
      (λ h. stay_used xs (behind l xs b) v h)

  abbrev cast_uses : List Line → ℕ → Bool
  cast_uses xs v = list_any (λ l. (l.is_cast && any_used U l.results) && among v l.operands) xs

  -- each value that is found is used by another operation, or by a cast that stays
  found_used : (xs : List Line) → ((v : ℕ) → with_lines xs B v ≡ true → U v ≡ true) → (v : ℕ) → with_lines xs B v ≡ true → (B v || cast_uses xs v) ≡ true
  found_used [] more v e = or_left (B v) false e
  found_used (l ∷ xs) more v e =
      let below : (u : ℕ) → with_lines xs B u ≡ true → U u ≡ true = λ u h. more u (with_line_was l (with_lines xs B) u h) in
      with_line_cases l (with_lines xs B) v e
      (λ h. or_cases (B v) (cast_uses xs v) (found_used xs below v h) (λ a. or_left (B v) (cast_uses (l ∷ xs) v) a)
      (λ a. or_right (B v) (cast_uses (l ∷ xs) v) (or_right ((l.is_cast && any_used U l.results) && among v l.operands) (cast_uses xs v) a)))
      (λ cast used is.
      or_right (B v) (cast_uses (l ∷ xs) v)
      (or_left ((l.is_cast && any_used U l.results) && among v l.operands) (cast_uses xs v)
      (both_true (l.is_cast && any_used U l.results) (among v l.operands) (both_true l.is_cast (any_used U l.results) cast (any_more (λ (r : ℕ × PlainType). with_lines xs B r.0) (λ (r : ℕ × PlainType). U r.0) l.results (λ r h. below r.0 h) used)) is)))

stays_in : (U : ℕ → Bool) (l : Line) (v : ℕ) → (not l.is_cast && among v l.operands) ≡ true → (not (is_unused U l) && among v l.operands) ≡ true
stays_in U l v e =
    let parts = and_true (not l.is_cast) (among v l.operands) e in
    both_true (not (is_unused U l)) (among v l.operands) (ap (λ b. not (b && not (any_used U l.results))) (not_true l.is_cast parts.0)) parts.1

cast_in : (U : ℕ → Bool) (l : Line) (v : ℕ) → ((l.is_cast && any_used U l.results) && among v l.operands) ≡ true → (not (is_unused U l) && among v l.operands) ≡ true
cast_in U l v e =
    let parts = and_true (l.is_cast && any_used U l.results) (among v l.operands) e in
    let tests = and_true l.is_cast (any_used U l.results) parts.0 in
    both_true (not (is_unused U l)) (among v l.operands) (ap (λ b. not (b && not (any_used U l.results))) tests.0 ∙ ap (λ b. not (not b)) tests.1) parts.1

none_behind : (xs : List Line) (B : ℕ → Bool) (v : ℕ) → B v ≡ true → with_lines xs B v ≡ true
none_behind [] B v e = e
none_behind (l ∷ xs) B v e = with_line_was l (with_lines xs B) v (none_behind xs B v e)

-- the pass finds what is used in the end
pub settled : (ls : List Line) → is_forward ls ≡ true → Settled (with_lines ls (used_by_others ls)) ls
settled ls forward =
    let B : ℕ → Bool = used_by_others ls in
    let U : ℕ → Bool = with_lines ls B in
    record {
      inside = stay_used B U ls (record { forward = forward; more = λ v h. h; results = λ v r h. h; others = λ v h. none_behind ls B v h });
      only = λ v h. or_cases (B v) (cast_uses B U ls v) (found_used B U ls (λ u g. g) v h)
          (λ a. any_more (λ (l : Line). not l.is_cast && among v l.operands) (λ (l : Line). not (is_unused U l) && among v l.operands) ls (λ l g. stays_in U l v g) a)
          (λ a. any_more (λ (l : Line). (l.is_cast && any_used U l.results) && among v l.operands) (λ (l : Line). not (is_unused U l) && among v l.operands) ls (λ l g. cast_in U l v g) a);
    }
