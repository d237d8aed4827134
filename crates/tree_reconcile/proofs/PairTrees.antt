-- What one pass over the casts finds is what the definition leaves out of a tree step by step.
use Rattle.std.proofs.Common.{◌≡◌, ℕ, zero, suc, ◌≤◌, ◌==◌, Bool, true, false, List, [], ◌∷◌, ◌++◌, length, map, Option, Some, None, refl, sym, ap, subst, ◌∙◌, true≢false}
use Rattle.std.specs.Prelude.{◌||◌, ◌&&◌, not, codes, if◌then◌else◌}
use Rattle.std.specs.List.{list_any}
use Rattle.std.specs.Str.{bytes_eq}
use Rattle.std.proofs.Math.Path.{fun_ext}
use Rattle.std.proofs.lemmas.Bool.{eqb-true}
use Rattle.plain_tree.specs.Types.{PlainType, same_type}
use Rattle.plain_tree.specs.Ops.{Op, op, Values}
use Rattle.plain_tree.specs.Values.{types_of}
use Rattle.conversion_model.specs.Promises.{BareOp}
use Rattle.conversion_model.specs.Uses.{operations, replaced}
use Rattle.conversion_model.specs.Reconciled.{Cast, cast_in, casts_in, first_pair, is_cast, is_cast_of, pair_of, pair_or, pairs_left_out, stands_for, undoes, without_pair}
use Rattle.conversion_model.proofs.Sizes.{op_any_listed, op_inside}
use Rattle.tree_uses.specs.Edited.{edited}
use Rattle.tree_reconcile.specs.Lines.{Line, line_of}
use Rattle.tree_reconcile.specs.Plans.{Single, at_start, cast_by, casts_by, is_gone, is_in_order, single_in, single_of, singles, with_casts}
use Rattle.tree_reconcile.proofs.Bools.{and_true, any_none, by_cases, clash, not_true, or_cases, or_false, turned}
use Rattle.tree_reconcile.proofs.LineLaws.{Spares, kept_lines, lines, lines_kept, lines_listed, test_of, type_kept}
use Rattle.tree_reconcile.proofs.PairLaws.{all_moved, all_planned, first_of, gone_by, moved, moves, pairs_by, pairs_in, ready_at_start, stepped, without_result}
use Rattle.tree_reconcile.proofs.TreeLaws.{op_twice, op_whole}

-- Casts of the definition by lines

single_cast : (T : ℕ → PlainType) (b : Bool) (v r : ℕ) (t : PlainType) → (if b then record { operand = v; from = T v; result = r; to = t } ∷ [] else []) ≡ casts_by T (single_of b ((r, t) ∷ []) (v ∷ []))
single_cast T true v r t = refl
single_cast T false v r t = refl

no_single : (T : ℕ → PlainType) (b : Bool) (rs : Values) (vs : List ℕ) → ((c : Bool) → single_of c rs vs ≡ []) → [] ≡ casts_by T (single_of b rs vs)
no_single T b rs vs none = ap (casts_by T) (sym (none b))

cast_single : (T : ℕ → PlainType) (o : Op) → cast_in T o ≡ casts_by T (single_in (line_of o))
cast_single T (op k [] operands regions successors) = no_single T (bytes_eq k.name (codes "builtin.unrealized_conversion_cast")) [] operands none
  where
    none : (c : Bool) → single_of c [] operands ≡ []
    none true = refl
    none false = refl
cast_single T (op k (r ∷ []) [] regions successors) = no_single T (bytes_eq k.name (codes "builtin.unrealized_conversion_cast")) (r ∷ []) [] none
  where
    none : (c : Bool) → single_of c (r ∷ []) [] ≡ []
    none true = refl
    none false = refl
cast_single T (op k (r ∷ []) (v ∷ []) regions successors) = single_cast T (bytes_eq k.name (codes "builtin.unrealized_conversion_cast")) v r.0 r.1
cast_single T (op k (r ∷ []) (v ∷ w ∷ vs) regions successors) = no_single T (bytes_eq k.name (codes "builtin.unrealized_conversion_cast")) (r ∷ []) (v ∷ w ∷ vs) none
  where
    none : (c : Bool) → single_of c (r ∷ []) (v ∷ w ∷ vs) ≡ []
    none true = refl
    none false = refl
cast_single T (op k (r ∷ q ∷ rs) operands regions successors) = no_single T (bytes_eq k.name (codes "builtin.unrealized_conversion_cast")) (r ∷ q ∷ rs) operands none
  where
    none : (c : Bool) → single_of c (r ∷ q ∷ rs) operands ≡ []
    none true = refl
    none false = refl

casts_append : (T : ℕ → PlainType) (ks cs : List Single) → casts_by T (ks ++ cs) ≡ casts_by T ks ++ casts_by T cs
casts_append T [] cs = refl
casts_append T (k ∷ ks) cs = ap (λ xs. cast_by T k ∷ xs) (casts_append T ks cs)

pub casts_singles : (T : ℕ → PlainType) (os : List (ℕ × Op)) → casts_in T os ≡ casts_by T (singles (map line_of (map (λ (x : ℕ × Op). x.1) os)))
casts_singles T [] = refl
casts_singles T (o ∷ os) =
    ap (λ xs. xs ++ casts_in T os) (cast_single T o.1) ∙ ap (λ xs. casts_by T (single_in (line_of o.1)) ++ xs) (casts_singles T os)
    ∙ sym (casts_append T (single_in (line_of o.1)) (singles (map line_of (map (λ (x : ℕ × Op). x.1) os))))

-- The test of a step by lines

one_of : (b c : Bool) → (b && c) ≡ ((if b then c else false) || false)
one_of true true = refl
one_of true false = refl
one_of false c = refl

single_test : (b : Bool) (n r v : ℕ) (t : PlainType) → (b && (r == n)) ≡ list_any (λ (c : Single). c.result == n) (single_of b ((r, t) ∷ []) (v ∷ []))
single_test true n r v t = one_of true (r == n)
single_test false n r v t = refl

no_test : (n : ℕ) (rs : Values) (vs : List ℕ) (b : Bool) → single_of b rs vs ≡ [] → false ≡ list_any (λ (c : Single). c.result == n) (single_of b rs vs)
no_test n rs vs b e = sym (ap (list_any (λ (c : Single). c.result == n)) e)

pub is_cast_gone : (n : ℕ) (o : Op) → is_cast_of n o ≡ is_gone (λ m. m == n) (line_of o)
is_cast_gone n (op k [] operands regions successors) = no_test n [] operands (bytes_eq k.name (codes "builtin.unrealized_conversion_cast")) (none (bytes_eq k.name (codes "builtin.unrealized_conversion_cast")))
  where
    none : (c : Bool) → single_of c [] operands ≡ []
    none true = refl
    none false = refl
is_cast_gone n (op k (r ∷ []) [] regions successors) = no_test n (r ∷ []) [] (bytes_eq k.name (codes "builtin.unrealized_conversion_cast")) (none (bytes_eq k.name (codes "builtin.unrealized_conversion_cast")))
  where
    none : (c : Bool) → single_of c (r ∷ []) [] ≡ []
    none true = refl
    none false = refl
is_cast_gone n (op k (r ∷ []) (v ∷ []) regions successors) = single_test (bytes_eq k.name (codes "builtin.unrealized_conversion_cast")) n r.0 v r.1
is_cast_gone n (op k (r ∷ []) (v ∷ w ∷ vs) regions successors) = no_test n (r ∷ []) (v ∷ w ∷ vs) (bytes_eq k.name (codes "builtin.unrealized_conversion_cast")) (none (bytes_eq k.name (codes "builtin.unrealized_conversion_cast")))
  where
    none : (c : Bool) → single_of c (r ∷ []) (v ∷ w ∷ vs) ≡ []
    none true = refl
    none false = refl
is_cast_gone n (op k (r ∷ q ∷ rs) operands regions successors) = no_test n (r ∷ q ∷ rs) operands (bytes_eq k.name (codes "builtin.unrealized_conversion_cast")) (none (bytes_eq k.name (codes "builtin.unrealized_conversion_cast")))
  where
    none : (c : Bool) → single_of c (r ∷ q ∷ rs) operands ≡ []
    none true = refl
    none false = refl

gone_same : (n : ℕ) (S : ℕ → ℕ) (t : Op → Bool) (o : Op) → is_cast_of n (edited S t o) ≡ is_cast_of n o
gone_same n S t (op k [] operands regions successors) = refl
gone_same n S t (op k (r ∷ []) [] regions successors) = refl
gone_same n S t (op k (r ∷ []) (v ∷ []) regions successors) = refl
gone_same n S t (op k (r ∷ []) (v ∷ w ∷ vs) regions successors) = refl
gone_same n S t (op k (r ∷ q ∷ rs) operands regions successors) = refl

or_mixed : (a b c d : Bool) → ((a || b) || (c || d)) ≡ ((a || c) || (b || d))
or_mixed true b c d = refl
or_mixed false true true d = refl
or_mixed false true false d = refl
or_mixed false false true d = refl
or_mixed false false false d = refl

either_gone : (g h : ℕ → Bool) (cs : List Single) → (list_any (λ (c : Single). g c.result) cs || list_any (λ (c : Single). h c.result) cs) ≡ list_any (λ (c : Single). g c.result || h c.result) cs
either_gone g h [] = refl
either_gone g h (c ∷ cs) =
    or_mixed (g c.result) (list_any (λ (d : Single). g d.result) cs) (h c.result) (list_any (λ (d : Single). h d.result) cs)
    ∙ ap (λ b. (g c.result || h c.result) || b) (either_gone g h cs)

or_turned : (a b : Bool) → (a || b) ≡ (b || a)
or_turned true true = refl
or_turned true false = refl
or_turned false true = refl
or_turned false false = refl

-- one result more
abbrev pub gone_with : ℕ → (ℕ → Bool) → ℕ → Bool
gone_with r g n = (r == n) || g n

tests_join : (g : ℕ → Bool) (r : ℕ) (o : Op) → (test_of (is_gone g) o || is_cast_of r o) ≡ test_of (is_gone (gone_with r g)) o
tests_join g r o =
    ap (λ b. is_gone g (line_of o) || b) (is_cast_gone r o) ∙ either_gone g (λ m. m == r) (single_in (line_of o))
    ∙ ap (λ (h : ℕ → Bool). is_gone h (line_of o)) (fun_ext (λ m. or_turned (g m) (m == r) ∙ ap (λ b. b || g m) (turned m r)))

-- What is left out are casts

gone_part : (g : ℕ → Bool) (v : ℕ) (b : Bool) (rs : Values) (vs : List ℕ) → g v ≡ false → list_any (λ (c : Single). g c.result) (single_of b rs vs) ≡ true → (b ≡ true) × (list_any (λ (r : ℕ × PlainType). r.0 == v) rs ≡ false)
gone_part g v true (r ∷ []) (u ∷ []) not_gone e = (
  refl,
  ap (λ b. b || false) (by_cases (r.0 == v) (λ h. clash (g r.0) (or_cases (g r.0) false e (λ x. x) (λ x. absurd (true≢false (sym x)))) (ap g (eqb-true r.0 v h) ∙ not_gone)) (λ h. h)),
)
gone_part g v true [] vs not_gone e = absurd (true≢false (sym e))
gone_part g v true (r ∷ []) [] not_gone e = absurd (true≢false (sym e))
gone_part g v true (r ∷ []) (u ∷ w ∷ vs) not_gone e = absurd (true≢false (sym e))
gone_part g v true (r ∷ q ∷ rs) vs not_gone e = absurd (true≢false (sym e))
gone_part g v false rs vs not_gone e = absurd (true≢false (sym e))

gone_spares : (g : ℕ → Bool) (v : ℕ) → g v ≡ false → Spares (is_gone g) v
gone_spares g v not_gone l e = gone_part g v l.is_cast l.results l.operands not_gone e

gone_cast : (g : ℕ → Bool) (b : Bool) (rs : Values) (vs : List ℕ) → list_any (λ (c : Single). g c.result) (single_of b rs vs) ≡ true → b ≡ true
gone_cast g true rs vs e = refl
gone_cast g false rs vs e = absurd (true≢false (sym e))

gone_casts : (g : ℕ → Bool) (l : Line) → is_gone g l ≡ true → l.is_cast ≡ true
gone_casts g l e = gone_cast g l.is_cast l.results l.operands e

root_stays : (g : ℕ → Bool) (f : Op) → is_cast f ≡ false → is_gone g (line_of f) ≡ false
root_stays g f root = by_cases (is_gone g (line_of f)) (λ h. clash (is_cast f) (gone_casts g (line_of f) h) root) (λ h. h)

-- The casts that are left

abbrev pub remaining : (ℕ → Bool) → List Single → List Single
remaining g [] = []
remaining g (c ∷ cs) = if g c.result then remaining g cs else c ∷ remaining g cs

one_kept : (S : ℕ → ℕ) (g : ℕ → Bool) (b : Bool) (rs : Values) (vs : List ℕ) (rest ls : List Line) → singles rest ≡ all_moved S (remaining g (singles ls))
    → singles (if list_any (λ (c : Single). g c.result) (single_of b rs vs) then rest else record { is_cast = b; results = rs; operands = map S vs } ∷ rest) ≡ all_moved S (remaining g (single_of b rs vs ++ singles ls))
one_kept S g false rs vs rest ls e = e
one_kept S g true [] vs rest ls e = e
one_kept S g true (r ∷ []) [] rest ls e = e
one_kept S g true (r ∷ []) (u ∷ []) rest ls e = by_gone (g r.0)
  where
    by_gone : (b : Bool) → singles (if b || false then rest else record { is_cast = true; results = r ∷ []; operands = S u ∷ [] } ∷ rest)
        ≡ all_moved S (if b then remaining g (singles ls) else record { operand = u; result = r.0; to = r.1 } ∷ remaining g (singles ls))
    by_gone true = e
    by_gone false = ap (λ xs. record { operand = S u; result = r.0; to = r.1 } ∷ xs) e
one_kept S g true (r ∷ []) (u ∷ w ∷ vs) rest ls e = e
one_kept S g true (r ∷ q ∷ rs) vs rest ls e = e

singles_kept : (S : ℕ → ℕ) (g : ℕ → Bool) (ls : List Line) → singles (kept_lines S (is_gone g) ls) ≡ all_moved S (remaining g (singles ls))
singles_kept S g [] = refl
singles_kept S g (l ∷ ls) = one_kept S g l.is_cast l.results l.operands (kept_lines S (is_gone g) ls) ls (singles_kept S g ls)

or_true : (b : Bool) → (b || true) ≡ true
or_true true = refl
or_true false = refl

-- one step over those that are left
step_left : (r w : ℕ) (S : ℕ → ℕ) (g : ℕ → Bool) (cs : List Single) → stepped (r, w) (all_moved S (remaining g cs)) ≡ all_moved (λ v. replaced r w (S v)) (remaining (gone_with r g) cs)
step_left r w S g [] = refl
step_left r w S g (c ∷ cs) = by_gone (g c.result) (step_left r w S g cs)
  where
    by_same : (d e : Bool) → d ≡ e → stepped (r, w) (all_moved S (remaining g cs)) ≡ all_moved (λ v. replaced r w (S v)) (remaining (gone_with r g) cs)
        → all_moved (replaced r w) (if d then without_result r (all_moved S (remaining g cs)) else moved S c ∷ without_result r (all_moved S (remaining g cs)))
        ≡ all_moved (λ v. replaced r w (S v)) (if e || false then remaining (gone_with r g) cs else c ∷ remaining (gone_with r g) cs)
    by_same true true same rest = rest
    by_same true false same rest = absurd (true≢false same)
    by_same false true same rest = absurd (true≢false (sym same))
    by_same false false same rest = ap (λ xs. record { operand = replaced r w (S c.operand); result = c.result; to = c.to } ∷ xs) rest

    by_gone : (b : Bool) → stepped (r, w) (all_moved S (remaining g cs)) ≡ all_moved (λ v. replaced r w (S v)) (remaining (gone_with r g) cs)
        → all_moved (replaced r w) (without_result r (all_moved S (if b then remaining g cs else c ∷ remaining g cs)))
        ≡ all_moved (λ v. replaced r w (S v)) (if (r == c.result) || b then remaining (gone_with r g) cs else c ∷ remaining (gone_with r g) cs)
    by_gone true rest = rest ∙ ap (λ e. all_moved (λ v. replaced r w (S v)) (if e then remaining (gone_with r g) cs else c ∷ remaining (gone_with r g) cs)) (sym (or_true (r == c.result)))
    by_gone false rest = by_same (c.result == r) (r == c.result) (turned c.result r) rest

-- The value of a pair

record PairIs (S : ℕ → ℕ) (p : ℕ × ℕ) : Type 0 where
  from : ℕ
  value : p.1 ≡ S from
  other : (p.1 == p.0) ≡ false

some_not : {A : Type 0} {x : A} → None ≡ Some x → ⊥
some_not e = absurd (cc)

some_pair : {p q : ℕ × ℕ} → Some p ≡ Some q → p ≡ q
some_pair e = cc

some_number : {m n : ℕ} → Some m ≡ Some n → m ≡ n
some_number e = cc

stands_is : (T : ℕ → PlainType) (S : ℕ → ℕ) (c : Cast) (xs : List Single) (w : ℕ) → stands_for c (casts_by T (all_moved S xs)) ≡ Some w → PairIs S (c.result, w)
stands_is T S c [] w e = absurd (some_not e)
stands_is T S c (x ∷ xs) w e = by_test (undoes c (cast_by T (moved S x))) refl e (stands_is T S c xs w)
  where
    by_test : (b : Bool) → ((x.result == c.operand) && (same_type (T (S x.operand)) c.to && not (S x.operand == c.result))) ≡ b → (if b then Some (S x.operand) else stands_for c (casts_by T (all_moved S xs))) ≡ Some w
        → (stands_for c (casts_by T (all_moved S xs)) ≡ Some w → PairIs S (c.result, w)) → PairIs S (c.result, w)
    by_test false is f rest = rest f
    by_test true is f rest =
        let same : S x.operand ≡ w = some_number f in
        let tests = and_true (same_type (T (S x.operand)) c.to) (not (S x.operand == c.result)) (and_true (x.result == c.operand) (same_type (T (S x.operand)) c.to && not (S x.operand == c.result)) is).1 in
        record { from = x.operand; value = sym same; other = subst (λ n. (n == c.result) ≡ false) same (not_true (S x.operand == c.result) tests.1) }

first_is : (T : ℕ → PlainType) (S : ℕ → ℕ) (xs : List Single) (ys : List Cast) (p : ℕ × ℕ) → first_pair (casts_by T (all_moved S xs)) ys ≡ Some p → PairIs S p
first_is T S xs [] p e = absurd (some_not e)
first_is T S xs (y ∷ ys) p e = by_stands (stands_for y (casts_by T (all_moved S xs))) refl e (first_is T S xs ys p)
  where
    by_stands : (o : Option ℕ) → stands_for y (casts_by T (all_moved S xs)) ≡ o → pair_or y o (first_pair (casts_by T (all_moved S xs)) ys) ≡ Some p
        → (first_pair (casts_by T (all_moved S xs)) ys ≡ Some p → PairIs S p) → PairIs S p
    by_stands None is f rest = rest f
    by_stands (Some w) is f rest = subst (λ q. PairIs S q) (some_pair f) (stands_is T S y xs w is)

-- The steps on the tree

module _ (f : Op) (bare : BareOp f) (root : is_cast f ≡ false) where
  abbrev T : ℕ → PlainType
  T = types_of f

  abbrev cs : List Single
  cs = singles (lines f)

  abbrev without : (ℕ → ℕ) → (ℕ → Bool) → Op
  without S g = edited S (test_of (is_gone g)) f

  types_stay : (S : ℕ → ℕ) (g : ℕ → Bool) → ((u : ℕ) → g (S u) ≡ false) → (u : ℕ) → types_of (without S g) (S u) ≡ T (S u)
  types_stay S g free u = type_kept S (is_gone g) (S u) (gone_spares g (S u) (free u)) f bare

  same_types : (S : ℕ → ℕ) (g : ℕ → Bool) → ((u : ℕ) → g (S u) ≡ false) → (xs : List Single) → casts_by (types_of (without S g)) (all_moved S xs) ≡ casts_by T (all_moved S xs)
  same_types S g free [] = refl
  same_types S g free (x ∷ xs) =
      ap (λ (t : PlainType). record { operand = S x.operand; from = t; result = x.result; to = x.to } ∷ casts_by (types_of (without S g)) (all_moved S xs)) (types_stay S g free x.operand)
      ∙ ap (λ ys. cast_by T (moved S x) ∷ ys) (same_types S g free xs)

  casts_are : (S : ℕ → ℕ) (g : ℕ → Bool) → ((u : ℕ) → g (S u) ≡ false) → casts_in (types_of (without S g)) (operations (without S g)) ≡ casts_by T (all_moved S (remaining g cs))
  casts_are S g free =
      casts_singles (types_of (without S g)) (operations (without S g))
      ∙ ap (λ ls. casts_by (types_of (without S g)) (singles ls)) (lines_listed (without S g) ∙ lines_kept S (is_gone g) (gone_casts g) f bare (root_stays g f root))
      ∙ ap (casts_by (types_of (without S g))) (singles_kept S g (lines f)) ∙ same_types S g free (remaining g cs)

  pair_is : (S : ℕ → ℕ) (g : ℕ → Bool) → ((u : ℕ) → g (S u) ≡ false) → pair_of (without S g) ≡ first_of T (all_moved S (remaining g cs))
  pair_is S g free = ap (λ all. first_pair all all) (casts_are S g free)

  -- one step
  step_is : (S : ℕ → ℕ) (g : ℕ → Bool) (p : ℕ × ℕ) → without_pair p (without S g) ≡ without (λ v. replaced p.0 p.1 (S v)) (gone_with p.0 g)
  step_is S g p =
      op_twice (replaced p.0 p.1) S (test_of (is_gone g)) (is_cast_of p.0) (gone_same p.0 S (test_of (is_gone g))) f
      ∙ ap (λ (t : Op → Bool). edited (λ v. replaced p.0 p.1 (S v)) t f) (fun_ext (tests_join g p.0))

  still_free : (S : ℕ → ℕ) (g : ℕ → Bool) (p : ℕ × ℕ) → ((u : ℕ) → g (S u) ≡ false) → PairIs S p → (u : ℕ) → gone_with p.0 g (replaced p.0 p.1 (S u)) ≡ false
  still_free S g p free is u =
      by_cases (S u == p.0)
      (λ h. ap (λ b. gone_with p.0 g (if b then p.1 else S u)) h ∙ ap (λ b. b || g p.1) (turned p.0 p.1 ∙ is.other) ∙ ap g is.value ∙ free is.from)
      (λ h. ap (λ b. gone_with p.0 g (if b then p.1 else S u)) h ∙ ap (λ b. b || g (S u)) (turned p.0 (S u) ∙ h) ∙ free u)

  by_pair : (room : ℕ) (S : ℕ → ℕ) (g : ℕ → Bool) → ((u : ℕ) → g (S u) ≡ false) → (o : Option (ℕ × ℕ)) → first_of T (all_moved S (remaining g cs)) ≡ o
      → ((S : ℕ → ℕ) (g : ℕ → Bool) → ((u : ℕ) → g (S u) ≡ false) → pairs_left_out room (without S g) ≡ without (moves S (pairs_in T room (all_moved S (remaining g cs)))) (gone_by g (pairs_in T room (all_moved S (remaining g cs)))))
      → elim o [ None ↦ without S g | Some p ↦ pairs_left_out room (without_pair p (without S g)) ]
      ≡ without (moves S (pairs_by (λ p. pairs_in T room (stepped p (all_moved S (remaining g cs)))) o)) (gone_by g (pairs_by (λ p. pairs_in T room (stepped p (all_moved S (remaining g cs)))) o))
  by_pair room S g free None is more = refl
  by_pair room S g free (Some p) is more =
      ap (pairs_left_out room) (step_is S g p)
      ∙ more (λ v. replaced p.0 p.1 (S v)) (gone_with p.0 g) (still_free S g p free (first_is T S (remaining g cs) (casts_by T (all_moved S (remaining g cs))) p is))
      ∙ ap (λ xs. without (moves (λ v. replaced p.0 p.1 (S v)) (pairs_in T room xs)) (gone_by (gone_with p.0 g) (pairs_in T room xs))) (sym (step_left p.0 p.1 S g cs))

  pairs_are : (room : ℕ) (S : ℕ → ℕ) (g : ℕ → Bool) → ((u : ℕ) → g (S u) ≡ false)
      → pairs_left_out room (without S g) ≡ without (moves S (pairs_in T room (all_moved S (remaining g cs)))) (gone_by g (pairs_in T room (all_moved S (remaining g cs))))
  pairs_are zero S g free = refl
  pairs_are (suc room) S g free =
      ap (λ o. elim o [ None ↦ without S g | Some p ↦ pairs_left_out room (without_pair p (without S g)) ]) (pair_is S g free)
      ∙ by_pair room S g free (first_of T (all_moved S (remaining g cs))) refl (pairs_are room)

  all_remain : (xs : List Single) → remaining (λ v. false) xs ≡ xs
  all_remain [] = refl
  all_remain (x ∷ xs) = ap (λ ys. x ∷ ys) (all_remain xs)

  -- nothing is gone at the start
  at_first : without (λ v. v) (λ v. false) ≡ f
  at_first =
      op_whole (test_of (is_gone (λ v. false))) f
      (or_false (op_inside (test_of (is_gone (λ v. false))) f) false
      (or_false (test_of (is_gone (λ v. false)) f) (op_inside (test_of (is_gone (λ v. false))) f || false)
      (sym (op_any_listed (test_of (is_gone (λ v. false))) 0 f []) ∙ any_none (λ (x : ℕ × Op). test_of (is_gone (λ v. false)) x.1) (operations f) (λ x. any_none (λ (c : Single). false) (single_in (line_of x.1)) (λ c. refl)))).1).0

  -- the tree without pairs, by one pass over the casts
  pub pairs_planned : (room : ℕ) → length cs ≤ room → is_in_order cs ≡ true
      → without (with_casts T at_start cs).to (with_casts T at_start cs).gone ≡ pairs_left_out room f
  pairs_planned room enough order =
      let plan = all_planned T cs room at_start [] enough (ready_at_start T cs order) in
      let same : all_moved (λ v. v) (remaining (λ v. false) cs) ≡ all_moved (λ v. v) cs = ap (all_moved (λ v. v)) (all_remain cs) in
      ap (λ S. without S (with_casts T at_start cs).gone) plan.to
      ∙ ap (λ g. without (moves (λ v. v) (pairs_in T room (all_moved (λ v. v) cs))) g) plan.gone
      ∙ ap (λ xs. without (moves (λ v. v) (pairs_in T room xs)) (gone_by (λ v. false) (pairs_in T room xs))) (sym same)
      ∙ sym (pairs_are room (λ v. v) (λ v. false) (λ u. refl))
      ∙ ap (pairs_left_out room) at_first
