-- Numbers that stand once, and their types.
use Rattle.std.proofs.Common.{◌≡◌, ℕ, ◌+◌, ◌==◌, ◌≤◌, Bool, true, false, List, [], ◌∷◌, ◌++◌, refl, sym, ap, ◌∙◌, subst, inl, inr, arith, true≢false}
use Rattle.std.specs.Prelude.{◌||◌, not, ◌⊎◌, if◌then◌else◌}
use Rattle.std.proofs.lemmas.Bool.{eqb-true, eq-eqb}
use Rattle.plain_tree.specs.Types.{PlainType}
use Rattle.plain_tree.specs.Ops.{Op, op, Ops, end_of_ops, more_ops, Regions, end_of_regions, region, Blocks, end_of_blocks, block, Values}
use Rattle.plain_tree.specs.Values.{blocks_values, op_values, ops_values, regions_values, type_in}
use Rattle.rule_model.specs.Words.{has, numbers}
use Rattle.rule_model.specs.Formed.{are_once, blocks_labels, op_labels, ops_labels, regions_labels}
use Rattle.rule_model.proofs.Numbers.{and_first, and_second, itself, not_true}
use Rattle.conversion_model.specs.Counts.{blocks_total, DefinesOnce, hits, LabelsOnce, none, op_total, ops_total, regions_total, values_count, values_total}
use Rattle.line_rules.specs.Lines.{HasValue}
use Rattle.line_rules.proofs.Words.{clash, or_left, or_right}
use Rattle.line_rules.proofs.SameTypes.{and_true}

-- how often v is among numbers
abbrev pub count_in : ℕ → List ℕ → ℕ
count_in v [] = 0
count_in v (n ∷ ns) = hits v n + count_in v ns

hit_by : (v n : ℕ) (b : Bool) → (n == v) ≡ b → (if b then 1 else 0) ≤ 1
hit_by v n true e = omega arith
hit_by v n false e = omega arith

pub none_counted : (v : ℕ) (ns : List ℕ) → has v ns ≡ false → count_in v ns ≡ 0
none_counted v [] e = refl
none_counted v (n ∷ ns) e = go (n == v) e (none_counted v ns)
  where
    go : (b : Bool) → (b || has v ns) ≡ false → (has v ns ≡ false → count_in v ns ≡ 0) → (if b then 1 else 0) + count_in v ns ≡ 0
    go true f rest = absurd (true≢false f)
    go false f rest = omega (arith, rest f)

pub some_counted : (v : ℕ) (ns : List ℕ) → has v ns ≡ true → 1 ≤ count_in v ns
some_counted v [] e = absurd (true≢false (sym e))
some_counted v (n ∷ ns) e = go (n == v) e (some_counted v ns)
  where
    go : (b : Bool) → (b || has v ns) ≡ true → (has v ns ≡ true → 1 ≤ count_in v ns) → 1 ≤ (if b then 1 else 0) + count_in v ns
    go true f rest = omega arith
    go false f rest = omega (arith, rest f)

pub once_counted : (v : ℕ) (ns : List ℕ) → are_once ns ≡ true → count_in v ns ≤ 1
once_counted v [] e = omega arith
once_counted v (n ∷ ns) e = go (n == v) refl (once_counted v ns (and_second (not (has n ns)) _ e))
  where
    go : (b : Bool) → (n == v) ≡ b → count_in v ns ≤ 1 → (if b then 1 else 0) + count_in v ns ≤ 1
    go true same rest = omega (arith, none_counted v ns (subst (λ m. has m ns ≡ false) (eqb-true n v same) (not_true (has n ns) (and_first (not (has n ns)) _ e))))
    go false other rest = omega (arith, rest)

pub counted_once : (ns : List ℕ) → ((v : ℕ) → count_in v ns ≤ 1) → are_once ns ≡ true
counted_once [] all = refl
counted_once (n ∷ ns) all = and_true (not (has n ns)) (are_once ns) (go (has n ns) refl) (counted_once ns (λ v. omega (arith, all v)))
  where
    here : hits n n ≡ 1
    here = ap (λ b. if b then 1 else 0) (itself n)

    go : (b : Bool) → has n ns ≡ b → not b ≡ true
    go true e = absurd (omega (arith, all n, here, some_counted n ns e))
    go false e = refl

-- Values of a tree, counted

pub values_counted : (v : ℕ) (vs : Values) → count_in v (numbers vs) ≡ values_count v vs
values_counted v [] = refl
values_counted v (x ∷ vs) = omega (arith, values_counted v vs)

count_joined : (v : ℕ) (vs ws : Values) → values_count v (vs ++ ws) ≡ values_count v vs + values_count v ws
count_joined v [] ws = omega arith
count_joined v (x ∷ vs) ws = omega (arith, count_joined v vs ws)

mutual
  op_counted : (v : ℕ) (o : Op) (more : Values) → values_count v (op_values o more) ≡ op_total (hits v) none o + values_count v more
  op_counted v (op k rs os r ls) more = omega (arith, count_joined v rs (regions_values r more), regions_counted v r more)

  ops_counted : (v : ℕ) (os : Ops) (more : Values) → values_count v (ops_values os more) ≡ ops_total (hits v) none os + values_count v more
  ops_counted v end_of_ops more = omega arith
  ops_counted v (more_ops o os) more = omega (arith, op_counted v o (ops_values os more), ops_counted v os more)

  regions_counted : (v : ℕ) (rs : Regions) (more : Values) → values_count v (regions_values rs more) ≡ regions_total (hits v) none rs + values_count v more
  regions_counted v end_of_regions more = omega arith
  regions_counted v (region b r) more = omega (arith, blocks_counted v b (regions_values r more), regions_counted v r more)

  blocks_counted : (v : ℕ) (bs : Blocks) (more : Values) → values_count v (blocks_values bs more) ≡ blocks_total (hits v) none bs + values_count v more
  blocks_counted v end_of_blocks more = omega arith
  blocks_counted v (block l args ops b) more =
      omega (arith, count_joined v args (ops_values ops (blocks_values b more)), ops_counted v ops (blocks_values b more), blocks_counted v b more)

pub defines_once : (f : Op) → are_once (numbers (op_values f [])) ≡ true → DefinesOnce f
defines_once f e v = omega (arith, once_counted v (numbers (op_values f [])) e, values_counted v (op_values f []), op_counted v f [])

pub once_defined : (f : Op) → DefinesOnce f → are_once (numbers (op_values f [])) ≡ true
once_defined f once = counted_once (numbers (op_values f [])) (λ v. omega (arith, once v, values_counted v (op_values f []), op_counted v f []))

-- Labels of a tree, counted

labels_joined : (l : ℕ) (ms ns : List ℕ) → count_in l (ms ++ ns) ≡ count_in l ms + count_in l ns
labels_joined l [] ns = omega arith
labels_joined l (m ∷ ms) ns = omega (arith, labels_joined l ms ns)

no_values : (vs : Values) → values_total none vs ≡ 0
no_values [] = refl
no_values (v ∷ vs) = omega (arith, no_values vs)

mutual
  op_labelled : (l : ℕ) (o : Op) → count_in l (op_labels o) ≡ op_total none (hits l) o
  op_labelled l (op k rs os r ls) = omega (arith, no_values rs, regions_labelled l r)

  ops_labelled : (l : ℕ) (os : Ops) → count_in l (ops_labels os) ≡ ops_total none (hits l) os
  ops_labelled l end_of_ops = refl
  ops_labelled l (more_ops o os) = omega (arith, labels_joined l (op_labels o) (ops_labels os), op_labelled l o, ops_labelled l os)

  regions_labelled : (l : ℕ) (rs : Regions) → count_in l (regions_labels rs) ≡ regions_total none (hits l) rs
  regions_labelled l end_of_regions = refl
  regions_labelled l (region b r) = omega (arith, labels_joined l (blocks_labels b) (regions_labels r), blocks_labelled l b, regions_labelled l r)

  blocks_labelled : (l : ℕ) (bs : Blocks) → count_in l (blocks_labels bs) ≡ blocks_total none (hits l) bs
  blocks_labelled l end_of_blocks = refl
  blocks_labelled l (block m args ops b) = omega (arith, no_values args, labels_joined l (ops_labels ops) (blocks_labels b), ops_labelled l ops, blocks_labelled l b)

pub labels_once : (f : Op) → are_once (op_labels f) ≡ true → LabelsOnce f
labels_once f e l = omega (arith, once_counted l (op_labels f) e, op_labelled l f)

-- Types

-- a number among values has its type
pub type_of_value : (vs : Values) (x : ℕ) → has x (numbers vs) ≡ true → HasValue x (type_in vs x) vs
type_of_value [] x e = absurd (true≢false (sym e))
type_of_value (v ∷ vs) x e = go (v.0 == x) refl e (type_of_value vs x)
  where
    go : (b : Bool) → (v.0 == x) ≡ b → (b || has x (numbers vs)) ≡ true → (has x (numbers vs) ≡ true → HasValue x (type_in vs x) vs) → HasValue x (if b then v.1 else type_in vs x) (v ∷ vs)
    go true same f rest = inl (eqb-true v.0 x same, refl)
    go false other f rest = inr (rest f)

pub value_among : (vs : Values) (x : ℕ) (t : PlainType) → HasValue x t vs → has x (numbers vs) ≡ true
value_among [] x t h = absurd h
value_among (v ∷ vs) x t (inl h) = or_left (v.0 == x) _ (eq-eqb v.0 x h.0)
value_among (v ∷ vs) x t (inr h) = or_right (v.0 == x) _ (value_among vs x t h)

-- where each number stands once
pub type_once : (vs : Values) (x : ℕ) (t : PlainType) → are_once (numbers vs) ≡ true → HasValue x t vs → type_in vs x ≡ t
type_once [] x t once h = absurd h
type_once (v ∷ vs) x t once (inl h) = ap (λ b. if b then v.1 else type_in vs x) (eq-eqb v.0 x h.0) ∙ h.1
type_once (v ∷ vs) x t once (inr h) = go (v.0 == x) refl (type_once vs x t (and_second (not (has v.0 (numbers vs))) _ once) h)
  where
    go : (b : Bool) → (v.0 == x) ≡ b → type_in vs x ≡ t → (if b then v.1 else type_in vs x) ≡ t
    go true same rest = clash (value_among vs x t h) (subst (λ m. has m (numbers vs) ≡ false) (eqb-true v.0 x same) (not_true (has v.0 (numbers vs)) (and_first (not (has v.0 (numbers vs))) _ once)))
    go false other rest = rest

pub value_left : (x : ℕ) (t : PlainType) (vs ws : Values) → HasValue x t vs → HasValue x t (vs ++ ws)
value_left x t [] ws h = absurd h
value_left x t (v ∷ vs) ws (inl h) = inl h
value_left x t (v ∷ vs) ws (inr h) = inr (value_left x t vs ws h)

pub value_right : (x : ℕ) (t : PlainType) (vs ws : Values) → HasValue x t ws → HasValue x t (vs ++ ws)
value_right x t [] ws h = h
value_right x t (v ∷ vs) ws h = inr (value_right x t vs ws h)

pub value_cases : (x : ℕ) (t : PlainType) (vs ws : Values) → HasValue x t (vs ++ ws) → HasValue x t vs ⊎ HasValue x t ws
value_cases x t [] ws h = inr h
value_cases x t (v ∷ vs) ws (inl h) = inl (inl h)
value_cases x t (v ∷ vs) ws (inr h) = elim (value_cases x t vs ws h) [ inl a ↦ inl (inr a) | inr a ↦ inr a ]
