-- One pass finds the pairs that the definition finds step by step, where casts are in order.
use Rattle.std.proofs.Common.{◌≡◌, ℕ, zero, suc, ◌≤◌, ◌==◌, Bool, true, false, List, [], ◌∷◌, ◌++◌, length, map, Option, Some, None, refl, sym, ap, subst, ◌∙◌, arith}
use Rattle.std.specs.Prelude.{◌||◌, ◌&&◌, not, ⊤, if◌then◌else◌}
use Rattle.std.proofs.lemmas.Bool.{eqb-true}
use Rattle.std.proofs.lemmas.List.{append_assoc}
use Rattle.std.proofs.lemmas.List.Folds.{list_any-append}
use Rattle.plain_tree.specs.Types.{PlainType, same_type}
use Rattle.conversion_model.specs.Uses.{replaced}
use Rattle.conversion_model.specs.Reconciled.{Cast, first_pair, pair_or, stands_for, undoes}
use Rattle.tree_reconcile.specs.Plans.{Plan, Single, at_start, cast_by, casts_by, has_result, is_in_order, planned, undone_by, with_casts}
use Rattle.tree_reconcile.proofs.Bools.{and_true, both_true, by_cases, clash, not_false, not_true, or_false, same_number, turned}

-- The definition's steps, over casts of one operand and one result alone

abbrev pub moved : (ℕ → ℕ) → Single → Single
moved S c = record { operand = S c.operand; result = c.result; to = c.to }

abbrev pub all_moved : (ℕ → ℕ) → List Single → List Single
all_moved S cs = map (moved S) cs

abbrev pub without_result : ℕ → List Single → List Single
without_result n [] = []
without_result n (c ∷ cs) = if c.result == n then without_result n cs else c ∷ without_result n cs

abbrev pub stepped : ℕ × ℕ → List Single → List Single
stepped p cs = all_moved (replaced p.0 p.1) (without_result p.0 cs)

abbrev pub first_of : (ℕ → PlainType) → List Single → Option (ℕ × ℕ)
first_of T cs = first_pair (casts_by T cs) (casts_by T cs)

abbrev pub pairs_by : (ℕ × ℕ → List (ℕ × ℕ)) → Option (ℕ × ℕ) → List (ℕ × ℕ)
pairs_by next None = []
pairs_by next (Some p) = p ∷ next p

-- the pairs of so many steps
abbrev pub pairs_in : (ℕ → PlainType) → ℕ → List Single → List (ℕ × ℕ)
pairs_in T zero cs = []
pairs_in T (suc room) cs = pairs_by (λ p. pairs_in T room (stepped p cs)) (first_of T cs)

abbrev pub moves : (ℕ → ℕ) → List (ℕ × ℕ) → ℕ → ℕ
moves S [] = S
moves S (p ∷ ps) = moves (λ v. replaced p.0 p.1 (S v)) ps

abbrev pub gone_by : (ℕ → Bool) → List (ℕ × ℕ) → ℕ → Bool
gone_by g [] = g
gone_by g (p ∷ ps) = gone_by (λ n. (p.0 == n) || g n) ps

-- Casts apart from those behind

-- no result of the first casts is one of the others, or of another one of them, and no operand of them is one of the others
abbrev pub Apart : List Single → List Single → Type 0
Apart [] xs = ⊤
Apart (k ∷ ks) xs = (has_result xs k.result ≡ false) × (has_result ks k.result ≡ false) × (has_result xs k.operand ≡ false) × Apart ks xs

result_split : (ks xs : List Single) (n : ℕ) → has_result (ks ++ xs) n ≡ false → (has_result ks n ≡ false) × (has_result xs n ≡ false)
result_split ks xs n e = or_false (has_result ks n) (has_result xs n) (sym (list_any-append (λ (c : Single). c.result == n) ks xs) ∙ e)

pub apart : (ks xs : List Single) → is_in_order (ks ++ xs) ≡ true → Apart ks xs × (is_in_order xs ≡ true)
apart [] xs e = (tt, e)
apart (k ∷ ks) xs e =
    let parts = and_true (is_in_order (ks ++ xs)) (not (has_result (ks ++ xs) k.result) && not (has_result (k ∷ (ks ++ xs)) k.operand)) e in
    let tests = and_true (not (has_result (ks ++ xs) k.result)) (not (has_result (k ∷ (ks ++ xs)) k.operand)) parts.1 in
    let result = result_split ks xs k.result (not_true (has_result (ks ++ xs) k.result) tests.0) in
    let operand = or_false (k.result == k.operand) (has_result (ks ++ xs) k.operand) (not_true (has_result (k ∷ (ks ++ xs)) k.operand) tests.1) in
    let rest = apart ks xs parts.0 in
    ((result.1, result.0, (result_split ks xs k.operand operand.1).1, rest.0), rest.1)

less_result : (ks : List Single) (c : Single) (cs : List Single) (n : ℕ) → has_result (ks ++ c ∷ cs) n ≡ false → has_result (ks ++ cs) n ≡ false
less_result [] c cs n e = (or_false (c.result == n) (has_result cs n) e).1
less_result (k ∷ ks) c cs n e =
    let parts = or_false (k.result == n) (has_result (ks ++ c ∷ cs) n) e in
    ap (λ b. b || has_result (ks ++ cs) n) parts.0 ∙ less_result ks c cs n parts.1

less_order : (ks : List Single) (c : Single) (cs : List Single) → is_in_order (ks ++ c ∷ cs) ≡ true → is_in_order (ks ++ cs) ≡ true
less_order [] c cs e = (and_true (is_in_order cs) (not (has_result cs c.result) && not (has_result (c ∷ cs) c.operand)) e).0
less_order (k ∷ ks) c cs e =
    let parts = and_true (is_in_order (ks ++ c ∷ cs)) (not (has_result (ks ++ c ∷ cs) k.result) && not (has_result (k ∷ (ks ++ c ∷ cs)) k.operand)) e in
    let tests = and_true (not (has_result (ks ++ c ∷ cs) k.result)) (not (has_result (k ∷ (ks ++ c ∷ cs)) k.operand)) parts.1 in
    both_true (is_in_order (ks ++ cs)) (not (has_result (ks ++ cs) k.result) && not (has_result (k ∷ (ks ++ cs)) k.operand)) (less_order ks c cs parts.0)
    (both_true (not (has_result (ks ++ cs) k.result)) (not (has_result (k ∷ (ks ++ cs)) k.operand))
    (not_false (has_result (ks ++ cs) k.result) (less_result ks c cs k.result (not_true (has_result (ks ++ c ∷ cs) k.result) tests.0)))
    (not_false (has_result (k ∷ (ks ++ cs)) k.operand) (less_result (k ∷ ks) c cs k.operand (not_true (has_result (k ∷ (ks ++ c ∷ cs)) k.operand) tests.1))))

moved_result : (S : ℕ → ℕ) (cs : List Single) (n : ℕ) → has_result (all_moved S cs) n ≡ has_result cs n
moved_result S [] n = refl
moved_result S (c ∷ cs) n = ap (λ b. (c.result == n) || b) (moved_result S cs n)

-- What stands for a result

module _ (T : ℕ → PlainType) where
  none_stands : (c : Cast) (ys : List Single) → has_result ys c.operand ≡ false → stands_for c (casts_by T ys) ≡ None
  none_stands c [] e = refl
  none_stands c (y ∷ ys) e =
      let parts = or_false (y.result == c.operand) (has_result ys c.operand) e in
      ap (λ b. if b && (same_type (T y.operand) c.to && not (y.operand == c.result)) then Some y.operand else stands_for c (casts_by T ys)) parts.0
      ∙ none_stands c ys parts.1

  stands_front : (c : Cast) (xs : List Cast) (ys : List Single) → has_result ys c.operand ≡ false → stands_for c (xs ++ casts_by T ys) ≡ stands_for c xs
  stands_front c [] ys e = none_stands c ys e
  stands_front c (x ∷ xs) ys e = ap (λ o. if undoes c x then Some x.operand else o) (stands_front c xs ys e)

-- The first pair

some_not : {A : Type 0} {x : A} → Some x ≡ None → ⊥
some_not e = absurd (cc)

none_pair : (c : Cast) (x : Option ℕ) (rest : Option (ℕ × ℕ)) → pair_or c x rest ≡ None → (x ≡ None) × (rest ≡ None)
none_pair c None rest e = (refl, e)
none_pair c (Some v) rest e = absurd (some_not e)

first_front : (all xs ys : List Cast) → first_pair all xs ≡ None → first_pair all (xs ++ ys) ≡ first_pair all ys
first_front all [] ys e = refl
first_front all (x ∷ xs) ys e =
    let parts = none_pair x (stands_for x all) (first_pair all xs) e in
    ap (λ o. pair_or x o (first_pair all (xs ++ ys))) parts.0 ∙ first_front all xs ys parts.1

-- no operand, moved, is the result of one of the others
abbrev Outside : (ℕ → ℕ) → List Single → List Single → Type 0
Outside S [] rest = ⊤
Outside S (k ∷ ks) rest = (has_result rest (S k.operand) ≡ false) × Outside S ks rest

first_kept : (T : ℕ → PlainType) (S : ℕ → ℕ) (all : List Cast) (rest ks : List Single) → Outside S ks rest
    → first_pair (all ++ casts_by T rest) (casts_by T (all_moved S ks)) ≡ first_pair all (casts_by T (all_moved S ks))
first_kept T S all rest [] apart = refl
first_kept T S all rest (k ∷ ks) apart =
    ap (λ o. pair_or (cast_by T (moved S k)) o (first_pair (all ++ casts_by T rest) (casts_by T (all_moved S ks)))) (stands_front T (cast_by T (moved S k)) all rest apart.0)
    ∙ ap (λ o. pair_or (cast_by T (moved S k)) (stands_for (cast_by T (moved S k)) all) o) (first_kept T S all rest ks apart.1)

-- Operands by results

abbrev pub operand_at : List Single → ℕ → Option ℕ
operand_at [] n = None
operand_at (k ∷ ks) n = if k.result == n then Some k.operand else operand_at ks n

operand_none : (ks : List Single) (n : ℕ) → has_result ks n ≡ false → operand_at ks n ≡ None
operand_none [] n e = refl
operand_none (k ∷ ks) n e =
    let parts = or_false (k.result == n) (has_result ks n) e in
    ap (λ b. if b then Some k.operand else operand_at ks n) parts.0 ∙ operand_none ks n parts.1

some_same : {m n : ℕ} → Some m ≡ Some n → m ≡ n
some_same e = cc

operand_apart : (ks xs : List Single) → Apart ks xs → (n v : ℕ) → operand_at ks n ≡ Some v → has_result xs v ≡ false
operand_apart [] xs a n v e = absurd (some_not (sym e))
operand_apart (k ∷ ks) xs a n v e = by_first (k.result == n) e (operand_apart ks xs a.3 n v)
  where
    by_first : (b : Bool) → (if b then Some k.operand else operand_at ks n) ≡ Some v → (operand_at ks n ≡ Some v → has_result xs v ≡ false) → has_result xs v ≡ false
    by_first true f rest = subst (λ u. has_result xs u ≡ false) (some_same f) a.2
    by_first false f rest = rest f

-- a result behind is none in front
pub result_apart : (ks : List Single) (c : Single) (cs : List Single) → Apart ks (c ∷ cs) → has_result ks c.result ≡ false
result_apart [] c cs a = refl
result_apart (k ∷ ks) c cs a =
    ap (λ b. b || has_result ks c.result) (turned k.result c.result ∙ (or_false (c.result == k.result) (has_result cs k.result) a.0).0) ∙ result_apart ks c cs a.3

operand_more : (ks : List Single) (c : Single) (n : ℕ) → has_result ks c.result ≡ false → (if c.result == n then Some c.operand else operand_at ks n) ≡ operand_at (ks ++ c ∷ []) n
operand_more [] c n e = refl
operand_more (k ∷ ks) c n e =
    let parts = or_false (k.result == c.result) (has_result ks c.result) e in
    by_first (k.result == n) refl parts.0 ∙ ap (λ o. if k.result == n then Some k.operand else o) (operand_more ks c n parts.1)
  where
    by_first : (b : Bool) → (k.result == n) ≡ b → (k.result == c.result) ≡ false
        → (if c.result == n then Some c.operand else (if b then Some k.operand else operand_at ks n)) ≡ (if b then Some k.operand else (if c.result == n then Some c.operand else operand_at ks n))
    by_first false is other = refl
    by_first true is other =
        by_cases (c.result == n)
        (λ h. clash (k.result == c.result) (subst (λ m. (m == c.result) ≡ true) (sym (eqb-true k.result n is)) (subst (λ m. (n == m) ≡ true) (sym (eqb-true c.result n h)) (same_number n))) other)
        (λ h. ap (λ b. if b then Some c.operand else Some k.operand) h)

abbrev pub mapped : (ℕ → ℕ) → Option ℕ → Option ℕ
mapped S None = None
mapped S (Some v) = Some (S v)

-- what stands for a result among casts in front
found : (T : ℕ → PlainType) (p : Plan) (xs ks : List Single) (c : Single) → Apart ks xs
    → stands_for (cast_by T (moved p.to c)) (casts_by T (all_moved p.to ks)) ≡ mapped p.to (undone_by T p c (operand_at ks (p.to c.operand)))
found T p xs [] c a = refl
found T p xs (k ∷ ks) c a = by_first (k.result == p.to c.operand) refl (found T p xs ks c a.3)
  where
    by_test : (b : Bool) (rest : Option ℕ) → rest ≡ None → (if b then Some (p.to k.operand) else rest) ≡ mapped p.to (if b then Some k.operand else None)
    by_test true rest none = refl
    by_test false rest none = none

    by_first : (b : Bool) → (k.result == p.to c.operand) ≡ b
        → stands_for (cast_by T (moved p.to c)) (casts_by T (all_moved p.to ks)) ≡ mapped p.to (undone_by T p c (operand_at ks (p.to c.operand)))
        → (if b && (same_type (T (p.to k.operand)) c.to && not (p.to k.operand == c.result)) then Some (p.to k.operand) else stands_for (cast_by T (moved p.to c)) (casts_by T (all_moved p.to ks)))
        ≡ mapped p.to (undone_by T p c (if b then Some k.operand else operand_at ks (p.to c.operand)))
    by_first false is rest = rest
    by_first true is rest =
        by_test (same_type (T (p.to k.operand)) c.to && not (p.to k.operand == c.result)) (stands_for (cast_by T (moved p.to c)) (casts_by T (all_moved p.to ks)))
        (none_stands T (cast_by T (moved p.to c)) (all_moved p.to ks) (moved_result p.to ks (p.to c.operand) ∙ subst (λ n. has_result ks n ≡ false) (eqb-true k.result (p.to c.operand) is) a.1))

-- One step over all

moved_twice : (r w : ℕ) (S : ℕ → ℕ) (cs : List Single) → has_result cs r ≡ false → stepped (r, w) (all_moved S cs) ≡ all_moved (λ v. replaced r w (S v)) cs
moved_twice r w S [] e = refl
moved_twice r w S (c ∷ cs) e =
    let parts = or_false (c.result == r) (has_result cs r) e in
    ap (λ b. all_moved (replaced r w) (if b then without_result r (all_moved S cs) else moved S c ∷ without_result r (all_moved S cs))) parts.0
    ∙ ap (λ xs. moved (λ v. replaced r w (S v)) c ∷ xs) (moved_twice r w S cs parts.1)

step_over : (w : ℕ) (S : ℕ → ℕ) (ks : List Single) (c : Single) (cs : List Single) → has_result ks c.result ≡ false → has_result cs c.result ≡ false
    → stepped (c.result, w) (all_moved S (ks ++ c ∷ cs)) ≡ all_moved (λ v. replaced c.result w (S v)) (ks ++ cs)
step_over w S [] c cs front behind =
    ap (λ b. all_moved (replaced c.result w) (if b then without_result c.result (all_moved S cs) else moved S c ∷ without_result c.result (all_moved S cs))) (same_number c.result)
    ∙ moved_twice c.result w S cs behind
step_over w S (k ∷ ks) c cs front behind =
    let parts = or_false (k.result == c.result) (has_result ks c.result) front in
    ap (λ b. all_moved (replaced c.result w) (if b then without_result c.result (all_moved S (ks ++ c ∷ cs)) else moved S k ∷ without_result c.result (all_moved S (ks ++ c ∷ cs)))) parts.0
    ∙ ap (λ xs. moved (λ v. replaced c.result w (S v)) k ∷ xs) (step_over w S ks c cs parts.1 behind)

replaced_other : (r w n : ℕ) → (n == r) ≡ false → replaced r w n ≡ n
replaced_other r w n e = ap (λ b. if b then w else n) e

replaced_same : (r w n : ℕ) → (n == r) ≡ true → replaced r w n ≡ w
replaced_same r w n e = ap (λ b. if b then w else n) e

same_moved : (r w : ℕ) (S : ℕ → ℕ) (c : Single) (cs ks : List Single) → c.result ≡ r → Outside S ks (c ∷ cs) → all_moved (λ v. replaced r w (S v)) ks ≡ all_moved S ks
same_moved r w S c cs [] is out = refl
same_moved r w S c cs (k ∷ ks) is out =
    let other : (S k.operand == r) ≡ false = turned (S k.operand) r ∙ subst (λ n. (n == S k.operand) ≡ false) is (or_false (c.result == S k.operand) (has_result cs (S k.operand)) out.0).0 in
    ap (λ v. record { operand = v; result = k.result; to = k.to } ∷ all_moved (λ u. replaced r w (S u)) ks) (replaced_other r w (S k.operand) other)
    ∙ ap (λ xs. moved S k ∷ xs) (same_moved r w S c cs ks is out.1)

-- The pass

pub record Ready (T : ℕ → PlainType) (p : Plan) (ks cs : List Single) : Type 0 where
  pub none : first_pair (casts_by T (all_moved p.to ks)) (casts_by T (all_moved p.to ks)) ≡ None
  pub order : is_in_order (ks ++ cs) ≡ true
  pub free : (v : ℕ) → has_result cs (p.to v) ≡ true → p.to v ≡ v
  pub known : (n : ℕ) → p.kept n ≡ operand_at ks n

-- what stands for each value, and what is gone, is as the definition says
pub record Planned (T : ℕ → PlainType) (room : ℕ) (p : Plan) (ks cs : List Single) : Type 0 where
  pub to : (with_casts T p cs).to ≡ moves p.to (pairs_in T room (all_moved p.to (ks ++ cs)))
  pub gone : (with_casts T p cs).gone ≡ gone_by p.gone (pairs_in T room (all_moved p.to (ks ++ cs)))

pairs_none : (T : ℕ → PlainType) (room : ℕ) (xs : List Single) → first_of T xs ≡ None → pairs_in T room xs ≡ []
pairs_none T zero xs e = refl
pairs_none T (suc room) xs e = ap (pairs_by (λ p. pairs_in T room (stepped p xs))) e

nothing_more : (xs : List Single) → xs ++ [] ≡ xs
nothing_more [] = refl
nothing_more (x ∷ xs) = ap (λ ys. x ∷ ys) (nothing_more xs)

still : (S : ℕ → ℕ) (cs : List Single) → ((v : ℕ) → has_result cs (S v) ≡ true → S v ≡ v) → (v : ℕ) → has_result cs v ≡ false → has_result cs (S v) ≡ false
still S cs free v e = by_cases (has_result cs (S v)) (λ h. clash (has_result cs v) (subst (λ n. has_result cs n ≡ true) (free v h) h) e) (λ h. h)

outside : (S : ℕ → ℕ) (ks xs : List Single) → Apart ks xs → ((v : ℕ) → has_result xs (S v) ≡ true → S v ≡ v) → Outside S ks xs
outside S [] xs a free = tt
outside S (k ∷ ks) xs a free = (still S xs free k.operand a.2, outside S ks xs a.3 free)

moved_outside : (S F : ℕ → ℕ) (ks xs : List Single) → Outside S ks xs → Outside S ks (all_moved F xs)
moved_outside S F [] xs o = tt
moved_outside S F (k ∷ ks) xs o = (moved_result F xs (S k.operand) ∙ o.0, moved_outside S F ks xs o.1)

moved_append : (S : ℕ → ℕ) (ks cs : List Single) → all_moved S (ks ++ cs) ≡ all_moved S ks ++ all_moved S cs
moved_append S [] cs = refl
moved_append S (k ∷ ks) cs = ap (λ xs. moved S k ∷ xs) (moved_append S ks cs)

casts_append : (T : ℕ → PlainType) (ks cs : List Single) → casts_by T (ks ++ cs) ≡ casts_by T ks ++ casts_by T cs
casts_append T [] cs = refl
casts_append T (k ∷ ks) cs = ap (λ xs. cast_by T k ∷ xs) (casts_append T ks cs)

module _ (T : ℕ → PlainType) (p : Plan) (ks : List Single) (c : Single) (cs : List Single) (ready : Ready T p ks (c ∷ cs)) where
  abbrev S : ℕ → ℕ
  S = p.to

  abbrev front : List Cast
  front = casts_by T (all_moved S ks)

  own : Cast
  own = cast_by T (moved S c)

  abbrev parts_apart : Apart ks (c ∷ cs)
  parts_apart = (apart ks (c ∷ cs) ready.order).0

  order_tests : (has_result cs c.result ≡ false) × (has_result (c ∷ cs) c.operand ≡ false)
  order_tests =
      let whole = and_true (is_in_order cs) (not (has_result cs c.result) && not (has_result (c ∷ cs) c.operand)) (apart ks (c ∷ cs) ready.order).1 in
      let tests = and_true (not (has_result cs c.result)) (not (has_result (c ∷ cs) c.operand)) whole.1 in
      (not_true (has_result cs c.result) tests.0, not_true (has_result (c ∷ cs) c.operand) tests.1)

  out : Outside S ks (c ∷ cs)
  out = outside S ks (c ∷ cs) parts_apart ready.free

  operand_out : has_result (c ∷ cs) (S c.operand) ≡ false
  operand_out = still S (c ∷ cs) ready.free c.operand order_tests.1

  -- what stands for the next cast's result
  next_stands : (o : Option ℕ) → undone_by T p c (p.kept (S c.operand)) ≡ o → stands_for (cast_by T (moved S c)) front ≡ mapped S o
  next_stands o is =
      found T p (c ∷ cs) ks c parts_apart ∙ ap (λ x. mapped S (undone_by T p c x)) (sym (ready.known (S c.operand))) ∙ ap (mapped S) is

  all_of : casts_by T (all_moved S (ks ++ c ∷ cs)) ≡ front ++ casts_by T (all_moved S (c ∷ cs))
  all_of = ap (casts_by T) (moved_append S ks (c ∷ cs)) ∙ casts_append T (all_moved S ks) (all_moved S (c ∷ cs))

  next_in_all : stands_for (cast_by T (moved S c)) (front ++ casts_by T (all_moved S (c ∷ cs))) ≡ stands_for (cast_by T (moved S c)) front
  next_in_all = stands_front T (cast_by T (moved S c)) front (all_moved S (c ∷ cs)) (moved_result S (c ∷ cs) (S c.operand) ∙ operand_out)

  none_in_front : first_pair (front ++ casts_by T (all_moved S (c ∷ cs))) front ≡ None
  none_in_front = first_kept T S front (all_moved S (c ∷ cs)) ks (moved_outside S S ks (c ∷ cs) out) ∙ ready.none

  first_is : (v : ℕ) → undone_by T p c (p.kept (S c.operand)) ≡ Some v → first_of T (all_moved S (ks ++ c ∷ cs)) ≡ Some (c.result, S v)
  first_is v is =
      ap (λ all. first_pair all all) all_of
      ∙ first_front (front ++ casts_by T (all_moved S (c ∷ cs))) front (casts_by T (all_moved S (c ∷ cs))) none_in_front
      ∙ ap (λ o. pair_or (cast_by T (moved S c)) o (first_pair (front ++ casts_by T (all_moved S (c ∷ cs))) (casts_by T (all_moved S cs)))) (next_in_all ∙ next_stands (Some v) is)

  -- the cast stays
  stays : undone_by T p c (p.kept (S c.operand)) ≡ None → Ready T (planned p c None) (ks ++ c ∷ []) cs
  stays is = record {
    none =
        ap (λ all. first_pair all all) (ap (casts_by T) (moved_append S ks (c ∷ [])) ∙ casts_append T (all_moved S ks) (all_moved S (c ∷ [])))
        ∙ first_front (front ++ cast_by T (moved S c) ∷ []) front (cast_by T (moved S c) ∷ [])
        (first_kept T S front (all_moved S (c ∷ [])) ks (alone ks out) ∙ ready.none)
        ∙ ap (λ o. pair_or (cast_by T (moved S c)) o None)
        (stands_front T (cast_by T (moved S c)) front (all_moved S (c ∷ [])) (alone_result (S c.operand) operand_out) ∙ next_stands None is);
    order = subst (λ xs. is_in_order xs ≡ true) (sym (append_assoc ks (c ∷ []) cs)) ready.order;
    free = λ v h. ready.free v (ap (λ b. (c.result == S v) || b) h ∙ any_or (c.result == S v));
    known = λ n. ap (λ o. if c.result == n then Some c.operand else o) (ready.known n) ∙ operand_more ks c n (result_apart ks c cs parts_apart);
  }
    where
      any_or : (b : Bool) → (b || true) ≡ true
      any_or true = refl
      any_or false = refl

      alone_result : (n : ℕ) → has_result (c ∷ cs) n ≡ false → ((c.result == n) || false) ≡ false
      alone_result n e = ap (λ b. b || false) (or_false (c.result == n) (has_result cs n) e).0

      alone : (xs : List Single) → Outside S xs (c ∷ cs) → Outside S xs (all_moved S (c ∷ []))
      alone [] o = tt
      alone (x ∷ xs) o = (alone_result (S x.operand) o.0, alone xs o.1)

  -- its result is given up
  goes : (v : ℕ) → undone_by T p c (p.kept (S c.operand)) ≡ Some v → operand_at ks (S c.operand) ≡ Some v → Ready T (planned p c (Some v)) ks cs
  goes v is at = record {
    none = ap (λ xs. first_pair (casts_by T xs) (casts_by T xs)) (same_moved c.result (S v) S c cs ks refl out) ∙ ready.none;
    order = less_order ks c cs ready.order;
    free = λ u h. by_cases (S u == c.result)
        (λ e. clash (has_result cs (S v)) (subst (λ n. has_result cs n ≡ true) (replaced_same c.result (S v) (S u) e) h) (or_false (c.result == S v) (has_result cs (S v)) value_out).1)
        (λ e. let same : replaced c.result (S v) (S u) ≡ S u = replaced_other c.result (S v) (S u) e in
        same ∙ ready.free u (ap (λ b. (c.result == S u) || b) (subst (λ n. has_result cs n ≡ true) same h) ∙ any_or (c.result == S u)));
    known = ready.known;
  }
    where
      any_or : (b : Bool) → (b || true) ≡ true
      any_or true = refl
      any_or false = refl

      value_out : has_result (c ∷ cs) (S v) ≡ false
      value_out = still S (c ∷ cs) ready.free v (operand_apart ks (c ∷ cs) parts_apart (S c.operand) v at)

undone_from : (T : ℕ → PlainType) (p : Plan) (c : Single) (o : Option ℕ) (v : ℕ) → undone_by T p c o ≡ Some v → o ≡ Some v
undone_from T p c None v e = absurd (some_not (sym e))
undone_from T p c (Some u) v e = by_test (same_type (T (p.to u)) c.to && not (p.to u == c.result)) e
  where
    by_test : (b : Bool) → (if b then Some u else None) ≡ Some v → Some u ≡ Some v
    by_test true f = f
    by_test false f = absurd (some_not (sym f))

one_cast : (T : ℕ → PlainType) (room : ℕ) (p : Plan) (ks : List Single) (c : Single) (cs : List Single) → suc (length cs) ≤ room → Ready T p ks (c ∷ cs)
    → ((room : ℕ) (p : Plan) (ks : List Single) → length cs ≤ room → Ready T p ks cs → Planned T room p ks cs)
    → (o : Option ℕ) → undone_by T p c (p.kept (p.to c.operand)) ≡ o
    → ((with_casts T (planned p c o) cs).to ≡ moves p.to (pairs_in T room (all_moved p.to (ks ++ c ∷ cs)))) × ((with_casts T (planned p c o) cs).gone ≡ gone_by p.gone (pairs_in T room (all_moved p.to (ks ++ c ∷ cs))))
one_cast T room p ks c cs enough ready more None is =
    let rest = more room (planned p c None) (ks ++ c ∷ []) (omega (arith, enough)) (stays T p ks c cs ready is) in
    let same : (ks ++ c ∷ []) ++ cs ≡ ks ++ c ∷ cs = append_assoc ks (c ∷ []) cs in (
      rest.to ∙ ap (λ xs. moves p.to (pairs_in T room (all_moved p.to xs))) same,
      rest.gone ∙ ap (λ xs. gone_by p.gone (pairs_in T room (all_moved p.to xs))) same,
    )
one_cast T zero p ks c cs enough ready more (Some v) is = absurd (omega (arith, enough))
one_cast T (suc room) p ks c cs enough ready more (Some v) is =
    let at : operand_at ks (p.to c.operand) ≡ Some v = sym (ready.known (p.to c.operand)) ∙ undone_from T p c (p.kept (p.to c.operand)) v is in
    let rest = more room (planned p c (Some v)) ks (omega (arith, enough)) (goes T p ks c cs ready v is at) in
    let step : pairs_in T (suc room) (all_moved p.to (ks ++ c ∷ cs)) ≡ (c.result, p.to v) ∷ pairs_in T room (all_moved (λ n. replaced c.result (p.to v) (p.to n)) (ks ++ cs)) =
    ap (pairs_by (λ q. pairs_in T room (stepped q (all_moved p.to (ks ++ c ∷ cs))))) (first_is T p ks c cs ready v is)
    ∙ ap (λ xs. (c.result, p.to v) ∷ pairs_in T room xs)
    (step_over (p.to v) p.to ks c cs (result_apart ks c cs (parts_apart T p ks c cs ready)) (order_tests T p ks c cs ready).0) in
    (rest.to ∙ ap (moves p.to) (sym step), rest.gone ∙ ap (gone_by p.gone) (sym step))

pub all_planned : (T : ℕ → PlainType) (cs : List Single) (room : ℕ) (p : Plan) (ks : List Single) → length cs ≤ room → Ready T p ks cs → Planned T room p ks cs
all_planned T [] room p ks enough ready =
    let none : pairs_in T room (all_moved p.to (ks ++ [])) ≡ [] =
    pairs_none T room (all_moved p.to (ks ++ [])) (ap (λ xs. first_of T (all_moved p.to xs)) (nothing_more ks) ∙ ready.none) in
    record { to = ap (moves p.to) (sym none); gone = ap (gone_by p.gone) (sym none) }
all_planned T (c ∷ cs) room p ks enough ready =
    let both = one_cast T room p ks c cs (omega (arith, enough)) ready (λ room p ks. all_planned T cs room p ks) (undone_by T p c (p.kept (p.to c.operand))) refl in
    record { to = both.0; gone = both.1 }

pub ready_at_start : (T : ℕ → PlainType) (cs : List Single) → is_in_order cs ≡ true → Ready T at_start [] cs
ready_at_start T cs order = record { none = refl; order = order; free = λ v e. refl; known = λ n. refl }

pub same_singles : (cs : List Single) → all_moved (λ v. v) cs ≡ cs
same_singles [] = refl
same_singles (c ∷ cs) = ap (λ xs. c ∷ xs) (same_singles cs)
