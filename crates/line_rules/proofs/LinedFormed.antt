-- A function in which operations are replaced by others one after another is formed.
use Rattle.std.proofs.Common.{◌≡◌, ℕ, Bool, true, List, [], ◌∷◌, ◌++◌, refl, sym, ap, ◌∙◌, subst, inl, inr, true≢false}
use Rattle.std.specs.Prelude.{◌⊎◌}
use Rattle.std.specs.List.{list_all}
use Rattle.plain_tree.specs.Types.{PlainType}
use Rattle.plain_tree.specs.Ops.{Kind, Op, op, Ops, more_ops, Regions, end_of_regions, Blocks, Values}
use Rattle.plain_tree.specs.Values.{blocks_values, op_values, ops_values, regions_values, type_in}
use Rattle.rule_model.specs.Words.{AllOf, has, numbers, results_of, successors_of}
use Rattle.rule_model.specs.Formed.{are_formed_blocks, are_formed_entries, are_formed_ops, are_formed_regions, are_formed_values, are_once, blocks_labels, is_formed_function, is_formed_here, is_formed_op, is_function_name, is_inner_name, op_labels, ops_labels, own_labels, regions_labels}
use Rattle.rule_model.proofs.Numbers.{and_first, and_second, has_of}
use Rattle.conversion_model.specs.Targets.{operands_of}
use Rattle.conversion_model.specs.Conversion.{regions_of}
use Rattle.conversion_model.specs.Counts.{DefinesOnce}
use Rattle.line_rules.specs.Lines.{bound_by, HasValue, Line, LinedBlocks, LinedOps, LinedRegions, LineKeeps, lined_block, lined_end, lined_no_block, lined_no_region, lined_region, OneFormed, put_ops, stays, Steps, swaps, Turn, TurnKeeps, turns, values_of}
use Rattle.line_rules.proofs.Words.{has_cases}
use Rattle.line_rules.proofs.SameTypes.{and_true}
use Rattle.line_rules.proofs.Once.{once_defined, type_of_value, value_among, value_cases, value_left, value_right}
use Rattle.line_rules.proofs.LinedValues.{behind_op, behind_ops, behind_regions, behind_blocks, own_value, regions_kept, tail_value}

-- Lists of tests

pub all_true : {A : Type 0} (f : A → Bool) (xs : List A) → list_all f xs ≡ true → AllOf (λ x. f x ≡ true) xs
all_true f [] e = tt
all_true f (x ∷ xs) e = (and_first (f x) _ e, all_true f xs (and_second (f x) _ e))

pub true_all : {A : Type 0} (f : A → Bool) (xs : List A) → AllOf (λ x. f x ≡ true) xs → list_all f xs ≡ true
true_all f [] e = refl
true_all f (x ∷ xs) e = and_true (f x) (list_all f xs) e.0 (true_all f xs e.1)

pub all_to : {A : Type 0} (P Q : A → Type 0) (xs : List A) → ((x : A) → P x → Q x) → AllOf P xs → AllOf Q xs
all_to P Q [] f all = tt
all_to P Q (x ∷ xs) f all = (f x all.0, all_to P Q xs f all.1)

-- numbers that are defined
abbrev pub Defined : List ℕ → List ℕ → Type 0
Defined defined ns = AllOf (λ x. has x defined ≡ true) ns

pub formed_one : (defined labels : List ℕ) (p : Op) → regions_of p ≡ end_of_regions → OneFormed p → Defined defined (operands_of p) → list_all (λ l. has l labels) (successors_of p) ≡ true → is_formed_op defined labels p ≡ true
formed_one defined labels (op k rs os r ls) bare formed all known =
    and_true (is_inner_name k.name) _ formed.0
    (and_true (is_formed_here defined labels k rs os ls) (are_formed_regions defined r)
    (and_true (list_all (λ v. has v defined) os) _ (true_all (λ v. has v defined) os all)
    (and_true (list_all (λ l. has l labels) ls) _ known
    (and_true (are_formed_values rs) _ formed.1 (and_true (are_formed_entries k.props) (are_formed_entries k.attrs) formed.2 formed.3))))
    (ap (λ s. are_formed_regions defined s) bare))

pub operands_defined : (defined labels : List ℕ) (o : Op) → is_formed_op defined labels o ≡ true → Defined defined (operands_of o)
operands_defined defined labels (op k rs os r ls) e =
    all_true (λ v. has v defined) os (and_first (list_all (λ v. has v defined) os) _ (and_first (is_formed_here defined labels k rs os ls) _ (and_second (is_inner_name k.name) _ e)))

pub successors_known : (defined labels : List ℕ) (o : Op) → is_formed_op defined labels o ≡ true → list_all (λ l. has l labels) (successors_of o) ≡ true
successors_known defined labels (op k rs os r ls) e =
    and_first (list_all (λ l. has l labels) ls) _ (and_second (list_all (λ v. has v defined) os) _ (and_first (is_formed_here defined labels k rs os ls) _ (and_second (is_inner_name k.name) _ e)))

-- the result of an operation, as a value
result_value : (x : ℕ) (p : Op) → has x (results_of p) ≡ true → (t : PlainType) × HasValue x t (values_of p)
result_value x (op k rs os r ls) e = (type_in rs x, type_of_value rs x e)

-- Labels

bare_labels : (o : Op) → regions_of o ≡ end_of_regions → op_labels o ≡ []
bare_labels (op k rs os r ls) bare = ap regions_labels bare

pub steps_bare : (Old : ℕ → Type 0) (rs os made : List ℕ) (l : List Op) → Steps Old rs os made l → AllOf (λ p. regions_of p ≡ end_of_regions) l
steps_bare Old rs os made [] s = tt
steps_bare Old rs os made (p ∷ l) s = (s.0, steps_bare Old rs os (results_of p ++ made) l s.4)

put_labels : (l : List Op) (tail : Ops) → AllOf (λ p. regions_of p ≡ end_of_regions) l → ops_labels (put_ops l tail) ≡ ops_labels tail
put_labels [] tail all = refl
put_labels (p ∷ l) tail all = ap (λ ls. ls ++ ops_labels (put_ops l tail)) (bare_labels p all.0) ∙ put_labels l tail all.1

formed_steps : (Old : ℕ → Type 0) (rs os made : List ℕ) (l : List Op) (tail : Ops) (defined labels : List ℕ) (more : Values) → Steps Old rs os made l → AllOf OneFormed l → AllOf (λ p. successors_of p ≡ []) l
    → Defined defined os → ((x : ℕ) → has x made ≡ true → has x defined ≡ true) → ((x : ℕ) (t : PlainType) → HasValue x t (ops_values (put_ops l tail) more) → has x defined ≡ true)
    → (((x : ℕ) → has x (bound_by l) ≡ true → has x defined ≡ true) → are_formed_ops defined labels tail ≡ true) → are_formed_ops defined labels (put_ops l tail) ≡ true
formed_steps Old rs os made [] tail defined labels more s formed none all known inside rest = rest (λ x h. absurd (true≢false (sym h)))
formed_steps Old rs os made (p ∷ l) tail defined labels more s formed none all known inside rest =
    and_true (is_formed_op defined labels p) _
    (formed_one defined labels p s.0 formed.0
    (all_to (λ x. (has x os ≡ true) ⊎ (has x made ≡ true)) (λ x. has x defined ≡ true) (operands_of p) (λ x e. elim e [ inl a ↦ has_of (λ y. has y defined ≡ true) x os all a | inr a ↦ known x a ]) s.2)
    (ap (λ ls. list_all (λ l. has l labels) ls) none.0))
    (formed_steps Old rs os (results_of p ++ made) l tail defined labels more s.4 formed.1 none.1 all
    (λ x h. elim (has_cases x (results_of p) made h) [ inl a ↦ here x a | inr a ↦ known x a ])
    (λ x t h. inside x t (behind_op x t p (ops_values (put_ops l tail) more) h))
    (λ inner. rest (λ x h. elim (has_cases x (results_of p) (bound_by l) h) [ inl a ↦ here x a | inr a ↦ inner x a ])))
  where
    here : (x : ℕ) → has x (results_of p) ≡ true → has x defined ≡ true
    here x a = let v = result_value x p a in inside x v.0 (own_value x v.0 p (ops_values (put_ops l tail) more) v.1)

module _ (Old : ℕ → Type 0) (K : ℕ → Op → Type 0) (G : ℕ → Op → List Op → Type 0) (H : ℕ → Op → List Op → Op → Type 0)
    (line : (n : ℕ) (o : Op) (l : List Op) → G n o l → Line Old o l) (turn : (n : ℕ) (o : Op) (l : List Op) (t : Op) → H n o l t → Turn Old o l t)
    (line_keeps : (n : ℕ) (o : Op) (l : List Op) → G n o l → LineKeeps o l) (turn_keeps : (n : ℕ) (o : Op) (l : List Op) (t : Op) → H n o l t → TurnKeeps o l t) where
  mutual
    ops_labels_kept : {n : ℕ} {os ps : Ops} → LinedOps K G H n os ps → ops_labels ps ≡ ops_labels os
    ops_labels_kept lined_end = refl
    ops_labels_kept (stays {r = r} {s = s} {rest = rest} {more = more} _ y d) = ap (λ ls. ls ++ ops_labels more) (regions_labels_kept y) ∙ ap (λ ls. regions_labels r ++ ls) (ops_labels_kept d)
    ops_labels_kept (swaps {n = n} {o = o} l {rest = rest} {more = more} g d) =
        put_labels l more (steps_bare Old (results_of o) (operands_of o) [] l (line n o l g).steps) ∙ ops_labels_kept d ∙ ap (λ ls. ls ++ ops_labels rest) (sym (bare_labels o (line_keeps n o l g).bare))
    ops_labels_kept (turns {n = n} {o = o} l t {rest = rest} {more = more} h d) =
        put_labels l (more_ops t more) (steps_bare Old [] (operands_of o) [] l (turn n o l t h).steps) ∙ ap (λ ls. ls ++ ops_labels more) (bare_labels t (turn n o l t h).bare)
        ∙ ops_labels_kept d ∙ ap (λ ls. ls ++ ops_labels rest) (sym (bare_labels o (turn_keeps n o l t h).bare))

    pub regions_labels_kept : {n : ℕ} {rs ss : Regions} → LinedRegions K G H n rs ss → regions_labels ss ≡ regions_labels rs
    regions_labels_kept lined_no_region = refl
    regions_labels_kept (lined_region {b = b} {s = s} y d) = ap (λ ls. ls ++ regions_labels s) (blocks_labels_kept y) ∙ ap (λ ls. blocks_labels b ++ ls) (regions_labels_kept d)

    blocks_labels_kept : {n : ℕ} {bs cs : Blocks} → LinedBlocks K G H n bs cs → blocks_labels cs ≡ blocks_labels bs
    blocks_labels_kept lined_no_block = refl
    blocks_labels_kept (lined_block {l = l} {ops = ops} {c = c} y d) = ap (λ ls. l ∷ (ls ++ blocks_labels c)) (ops_labels_kept y) ∙ ap (λ ls. l ∷ (ops_labels ops ++ ls)) (blocks_labels_kept d)

  own_labels_kept : {n : ℕ} {bs cs : Blocks} → LinedBlocks K G H n bs cs → own_labels cs ≡ own_labels bs
  own_labels_kept lined_no_block = refl
  own_labels_kept (lined_block {l = l} y d) = ap (λ ls. l ∷ ls) (own_labels_kept d)

  mutual
    ops_formed : {n : ℕ} {os ps : Ops} (was defined labels : List ℕ) (more : Values) → LinedOps K G H n os ps → ((x : ℕ) → has x was ≡ true → has x defined ≡ true)
        → ((x : ℕ) (t : PlainType) → HasValue x t (ops_values ps more) → has x defined ≡ true) → are_formed_ops was labels os ≡ true → are_formed_ops defined labels ps ≡ true
    ops_formed was defined labels more lined_end kept inside e = refl
    ops_formed was defined labels more (stays {k = k} {rs = rs} {os = os} {ls = ls} {r = r} {s = s} {rest = rest} {more = after} _ y d) kept inside e =
        let here : is_formed_op was labels (op k rs os r ls) ≡ true = and_first (is_formed_op was labels (op k rs os r ls)) _ e in
        let parts = and_second (is_inner_name k.name) _ here in
        let own = and_first (is_formed_here was labels k rs os ls) _ parts in
        and_true (is_formed_op defined labels (op k rs os s ls)) _
        (and_true (is_inner_name k.name) _ (and_first (is_inner_name k.name) _ here)
        (and_true (is_formed_here defined labels k rs os ls) _
        (and_true (list_all (λ v. has v defined) os) _
        (true_all (λ v. has v defined) os (all_to (λ x. has x was ≡ true) (λ x. has x defined ≡ true) os kept (all_true (λ v. has v was) os (and_first (list_all (λ v. has v was) os) _ own))))
        (and_second (list_all (λ v. has v was) os) _ own))
        (regions_formed was defined (ops_values after more) y kept (λ x t h. inside x t (value_right x t rs (regions_values s (ops_values after more)) h)) (and_second (is_formed_here was labels k rs os ls) _ parts))))
        (ops_formed was defined labels more d kept (λ x t h. inside x t (value_right x t rs (regions_values s (ops_values after more)) (behind_regions x t s (ops_values after more) h))) (and_second (is_formed_op was labels (op k rs os r ls)) _ e))
    ops_formed was defined labels more (swaps {n = n} {o = o} l {rest = rest} {more = after} g d) kept inside e =
        formed_steps Old (results_of o) (operands_of o) [] l after defined labels more (line n o l g).steps (line_keeps n o l g).formed (line_keeps n o l g).none
        (all_to (λ x. has x was ≡ true) (λ x. has x defined ≡ true) (operands_of o) kept (operands_defined was labels o (and_first (is_formed_op was labels o) _ e)))
        (λ x h. absurd (true≢false (sym h))) inside
        (λ inner. ops_formed was defined labels more d kept (λ x t h. inside x t (tail_value x t l after more h)) (and_second (is_formed_op was labels o) _ e))
    ops_formed was defined labels more (turns {n = n} {o = o} l t {rest = rest} {more = after} h d) kept inside e =
        let all = all_to (λ x. has x was ≡ true) (λ x. has x defined ≡ true) (operands_of o) kept (operands_defined was labels o (and_first (is_formed_op was labels o) _ e)) in
        formed_steps Old [] (operands_of o) [] l (more_ops t after) defined labels more (turn n o l t h).steps (turn_keeps n o l t h).formed (turn_keeps n o l t h).none all
        (λ x a. absurd (true≢false (sym a))) inside
        (λ inner. and_true (is_formed_op defined labels t) _
        (formed_one defined labels t (turn n o l t h).bare (turn_keeps n o l t h).last
        (all_to (λ x. (has x (operands_of o) ≡ true) ⊎ (has x (bound_by l) ≡ true)) (λ x. has x defined ≡ true) (operands_of t)
        (λ x a. elim a [ inl b ↦ has_of (λ y. has y defined ≡ true) x (operands_of o) all b | inr b ↦ inner x b ]) (turn n o l t h).operands)
        (ap (λ ls. list_all (λ m. has m labels) ls) (turn n o l t h).successors ∙ successors_known was labels o (and_first (is_formed_op was labels o) _ e)))
        (ops_formed was defined labels more d kept (λ x u a. inside x u (tail_value x u l (more_ops t after) more (behind_op x u t (ops_values after more) a))) (and_second (is_formed_op was labels o) _ e)))

    pub regions_formed : {n : ℕ} {rs ss : Regions} (was defined : List ℕ) (more : Values) → LinedRegions K G H n rs ss → ((x : ℕ) → has x was ≡ true → has x defined ≡ true)
        → ((x : ℕ) (t : PlainType) → HasValue x t (regions_values ss more) → has x defined ≡ true) → are_formed_regions was rs ≡ true → are_formed_regions defined ss ≡ true
    regions_formed was defined more lined_no_region kept inside e = refl
    regions_formed was defined more (lined_region {b = b} {c = c} {r = r} {s = s} y d) kept inside e =
        and_true (are_formed_blocks defined (own_labels c) c) _
        (subst (λ ls. are_formed_blocks defined ls c ≡ true) (sym (own_labels_kept y))
        (blocks_formed was defined (own_labels b) (regions_values s more) y kept inside (and_first (are_formed_blocks was (own_labels b) b) _ e)))
        (regions_formed was defined more d kept (λ x t h. inside x t (behind_blocks x t c (regions_values s more) h)) (and_second (are_formed_blocks was (own_labels b) b) _ e))

    blocks_formed : {n : ℕ} {bs cs : Blocks} (was defined labels : List ℕ) (more : Values) → LinedBlocks K G H n bs cs → ((x : ℕ) → has x was ≡ true → has x defined ≡ true)
        → ((x : ℕ) (t : PlainType) → HasValue x t (blocks_values cs more) → has x defined ≡ true) → are_formed_blocks was labels bs ≡ true → are_formed_blocks defined labels cs ≡ true
    blocks_formed was defined labels more lined_no_block kept inside e = refl
    blocks_formed was defined labels more (lined_block {args = args} {ops = ops} {qs = qs} {b = b} {c = c} y d) kept inside e =
        let parts = and_second (are_formed_values args) _ e in
        and_true (are_formed_values args) _ (and_first (are_formed_values args) _ e)
        (and_true (are_formed_ops defined labels qs) _
        (ops_formed was defined labels (blocks_values c more) y kept (λ x t h. inside x t (value_right x t args (ops_values qs (blocks_values c more)) h)) (and_first (are_formed_ops was labels ops) _ parts))
        (blocks_formed was defined labels more d kept (λ x t h. inside x t (value_right x t args (ops_values qs (blocks_values c more)) (behind_ops x t qs (blocks_values c more) h))) (and_second (are_formed_ops was labels ops) _ parts)))

  -- a function in whose regions operations are replaced is formed, where it defines each number once
  pub lined_formed : {n : ℕ} (k : Kind) (rs : Values) (os ls : List ℕ) {r s : Regions} → LinedRegions K G H n r s → DefinesOnce (op k rs os s ls) → is_formed_function (op k rs os r ls) ≡ true → is_formed_function (op k rs os s ls) ≡ true
  lined_formed k rs os ls {r = r} {s = s} y once e =
      let was : List ℕ = numbers (op_values (op k rs os r ls) []) in
      let defined : List ℕ = numbers (op_values (op k rs os s ls) []) in
      let kept : (x : ℕ) → has x was ≡ true → has x defined ≡ true = λ x h.
      value_among (op_values (op k rs os s ls) []) x (type_in (op_values (op k rs os r ls) []) x)
      (elim (value_cases x (type_in (op_values (op k rs os r ls) []) x) rs (regions_values r []) (type_of_value (op_values (op k rs os r ls) []) x h)) [
        | inl a ↦ value_left x _ rs (regions_values s []) a
        | inr a ↦ value_right x _ rs (regions_values s []) (regions_kept K G H line_keeps turn_keeps x _ [] [] y (λ z. z) a)
      ]) in
      let p1 = and_second (is_function_name k.name) _ e in
      let p2 = and_second (are_once was) _ p1 in
      let p3 = and_second (are_once (regions_labels r)) _ p2 in
      let own = and_first (is_formed_here was [] k rs os ls) _ p3 in
      and_true (is_function_name k.name) _ (and_first (is_function_name k.name) _ e)
      (and_true (are_once defined) _ (once_defined (op k rs os s ls) once)
      (and_true (are_once (regions_labels s)) _ (ap are_once (regions_labels_kept y) ∙ and_first (are_once (regions_labels r)) _ p2)
      (and_true (is_formed_here defined [] k rs os ls) _
      (and_true (list_all (λ v. has v defined) os) _
      (true_all (λ v. has v defined) os (all_to (λ x. has x was ≡ true) (λ x. has x defined ≡ true) os kept (all_true (λ v. has v was) os (and_first (list_all (λ v. has v was) os) _ own))))
      (and_second (list_all (λ v. has v was) os) _ own))
      (regions_formed was defined [] y kept (λ x t h. value_among (op_values (op k rs os s ls) []) x t (value_right x t rs (regions_values s []) h)) (and_second (is_formed_here was [] k rs os ls) _ p3)))))
