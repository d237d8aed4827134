-- Numbers that are defined once, and the types of values.
use Rattle.std.proofs.Common.{◌≡◌, ℕ, ◌+◌, ◌==◌, ◌≤◌, Bool, true, false, List, [], ◌∷◌, ◌++◌, refl, sym, ap, ◌∙◌, subst, arith, true≢false}
use Rattle.std.specs.Prelude.{not, ◌||◌, ◌&&◌, if◌then◌else◌}
use Rattle.std.proofs.lemmas.Bool.{eqb-true}
use Rattle.conversion_model.proofs.ReconcileLaws.{same_number}
use Rattle.plain_tree.specs.Types.{PlainType}
use Rattle.plain_tree.specs.Ops.{Op, op, Ops, end_of_ops, more_ops, Regions, end_of_regions, region, Blocks, end_of_blocks, block, Values}
use Rattle.plain_tree.specs.Values.{op_values, ops_values, regions_values, blocks_values, type_in}
use Rattle.conversion_model.specs.Counts.{DefinesOnce, LabelsOnce, hits, none, values_total, op_total, ops_total, regions_total, blocks_total}
use Rattle.rule_model.specs.Words.{has, numbers}
use Rattle.rule_model.specs.Formed.{are_once, op_labels, ops_labels, regions_labels, blocks_labels}
use Rattle.code_laws.specs.PlainCodes.{numbers_in}
use Rattle.conversion_laws.proofs.Names.{Distinct, none_distinct, one_more, differ, has_rest}
use Rattle.conversion_laws.proofs.Trees.{OpTyped, OpsTyped, RegionsTyped, BlocksTyped, ValuesTyped}

-- Bool

pub and_left : (a b : Bool) → (a && b) ≡ true → a ≡ true
and_left true b is = refl
and_left false b is = absurd (true≢false (sym is))

pub and_right : (a b : Bool) → (a && b) ≡ true → b ≡ true
and_right true b is = is
and_right false b is = absurd (true≢false (sym is))

not_true : (a : Bool) → not a ≡ true → a ≡ false
not_true true is = absurd (true≢false (sym is))
not_true false is = refl

-- Lists

-- what numbers count for, in all
abbrev pub total : (ℕ → ℕ) → List ℕ → ℕ
total f [] = 0
total f (n ∷ ns) = f n + total f ns

total_joined : (f : ℕ → ℕ) (ms ns : List ℕ) → total f (ms ++ ns) ≡ total f ms + total f ns
total_joined f [] ns = omega arith
total_joined f (m ∷ ms) ns = omega (arith, total_joined f ms ns)

pub none_counted : (v : ℕ) (ns : List ℕ) → has v ns ≡ false → total (hits v) ns ≡ 0
none_counted v [] h = refl
none_counted v (n ∷ ns) h = let r = has_rest n v ns h in ap (λ b. (if b then 1 else 0) + total (hits v) ns) r.0 ∙ omega (arith, none_counted v ns r.1)

once_counted : (v : ℕ) (ns : List ℕ) → are_once ns ≡ true → total (hits v) ns ≤ 1
once_counted v [] h = omega arith
once_counted v (n ∷ ns) h = go (n == v) refl (once_counted v ns (and_right (not (has n ns)) (are_once ns) h))
  where
    go : (b : Bool) → (n == v) ≡ b → total (hits v) ns ≤ 1 → (if b then 1 else 0) + total (hits v) ns ≤ 1
    go true is less = omega (arith, none_counted v ns (ap (λ k. has k ns) (sym (eqb-true n v is)) ∙ not_true (has n ns) (and_left (not (has n ns)) (are_once ns) h)))
    go false is less = omega (arith, less)

pub some_counted : (v : ℕ) (ns : List ℕ) → has v ns ≡ true → 1 ≤ total (hits v) ns
some_counted v [] h = absurd (true≢false (sym h))
some_counted v (n ∷ ns) h = go (n == v) refl (some_counted v ns)
  where
    go : (b : Bool) → (n == v) ≡ b → (has v ns ≡ true → 1 ≤ total (hits v) ns) → 1 ≤ (if b then 1 else 0) + total (hits v) ns
    go true is again = omega arith
    go false is again = omega (arith, again (sym (ap (λ c. c || has v ns) is) ∙ h))

pub distinct_counted : (ns : List ℕ) → ((v : ℕ) → total (hits v) ns ≤ 1) → Distinct ns
distinct_counted [] h = none_distinct
distinct_counted (n ∷ ns) h = one_more (go (has n ns) refl) (distinct_counted ns (λ v. omega (arith, h v)))
  where
    one : total (hits n) (n ∷ ns) ≡ 1 + total (hits n) ns
    one = ap (λ b. (if b then 1 else 0) + total (hits n) ns) (same_number n n refl)

    go : (b : Bool) → has n ns ≡ b → b ≡ false
    go true is = absurd (omega (arith, one, h n, some_counted n ns is))
    go false is = refl

-- Trees

values_counted : (f : ℕ → ℕ) (vs : Values) → values_total f vs ≡ total f (numbers_in vs)
values_counted f [] = refl
values_counted f (v ∷ vs) = ap (λ n. f v.0 + n) (values_counted f vs)

values_joined : (f : ℕ → ℕ) (vs ws : Values) → total f (numbers_in (vs ++ ws)) ≡ values_total f vs + total f (numbers_in ws)
values_joined f [] ws = omega arith
values_joined f (v ∷ vs) ws = omega (arith, values_joined f vs ws)

mutual
  pub op_counted : (f : ℕ → ℕ) (o : Op) (more : Values) → total f (numbers_in (op_values o more)) ≡ op_total f none o + total f (numbers_in more)
  op_counted f (op k rs os regions ls) more = omega (arith, values_joined f rs (regions_values regions more), regions_counted f regions more)

  pub ops_counted : (f : ℕ → ℕ) (os : Ops) (more : Values) → total f (numbers_in (ops_values os more)) ≡ ops_total f none os + total f (numbers_in more)
  ops_counted f end_of_ops more = omega arith
  ops_counted f (more_ops o os) more = omega (arith, op_counted f o (ops_values os more), ops_counted f os more)

  pub regions_counted : (f : ℕ → ℕ) (rs : Regions) (more : Values) → total f (numbers_in (regions_values rs more)) ≡ regions_total f none rs + total f (numbers_in more)
  regions_counted f end_of_regions more = omega arith
  regions_counted f (region blocks rest) more = omega (arith, blocks_counted f blocks (regions_values rest more), regions_counted f rest more)

  blocks_counted : (f : ℕ → ℕ) (bs : Blocks) (more : Values) → total f (numbers_in (blocks_values bs more)) ≡ blocks_total f none bs + total f (numbers_in more)
  blocks_counted f end_of_blocks more = omega arith
  blocks_counted f (block label args ops rest) more =
      omega (arith, values_joined f args (ops_values ops (blocks_values rest more)), ops_counted f ops (blocks_values rest more), blocks_counted f rest more)

no_values : (vs : Values) → values_total none vs ≡ 0
no_values [] = refl
no_values (v ∷ vs) = omega (arith, no_values vs)

mutual
  op_label_total : (f : ℕ → ℕ) (o : Op) → op_total none f o ≡ total f (op_labels o)
  op_label_total f (op k rs os regions ls) = omega (arith, no_values rs, regions_label_total f regions)

  ops_label_total : (f : ℕ → ℕ) (os : Ops) → ops_total none f os ≡ total f (ops_labels os)
  ops_label_total f end_of_ops = refl
  ops_label_total f (more_ops o os) = omega (arith, op_label_total f o, ops_label_total f os, total_joined f (op_labels o) (ops_labels os))

  regions_label_total : (f : ℕ → ℕ) (rs : Regions) → regions_total none f rs ≡ total f (regions_labels rs)
  regions_label_total f end_of_regions = refl
  regions_label_total f (region blocks more) = omega (arith, blocks_label_total f blocks, regions_label_total f more, total_joined f (blocks_labels blocks) (regions_labels more))

  blocks_label_total : (f : ℕ → ℕ) (bs : Blocks) → blocks_total none f bs ≡ total f (blocks_labels bs)
  blocks_label_total f end_of_blocks = refl
  blocks_label_total f (block label args ops more) =
      omega (arith, no_values args, ops_label_total f ops, blocks_label_total f more, total_joined f (ops_labels ops) (blocks_labels more))

numbers_are : (vs : Values) → numbers vs ≡ numbers_in vs
numbers_are [] = refl
numbers_are (v ∷ vs) = ap (λ ns. v.0 ∷ ns) (numbers_are vs)

no_more : (n : ℕ) → n ≡ n + 0
no_more n = omega arith

-- what is formed defines each number once, and each label stands once
pub defines_once : (f : Op) → are_once (numbers (op_values f [])) ≡ true → DefinesOnce f
defines_once f once v = omega (arith, op_counted (hits v) f [], once_counted v (numbers_in (op_values f [])) (ap are_once (sym (numbers_are (op_values f []))) ∙ once))

pub labels_once : (f : Op) → are_once (op_labels f) ≡ true → LabelsOnce f
labels_once f once l = omega (arith, op_label_total (hits l) f, once_counted l (op_labels f) once)

pub values_distinct : (f : Op) → DefinesOnce f → Distinct (numbers_in (op_values f []))
values_distinct f once = distinct_counted (numbers_in (op_values f [])) (λ v. omega (arith, op_counted (hits v) f [], once v))

-- Types

typed_more : (t : ℕ → PlainType) (n : ℕ) (u : PlainType) (vs : Values) → has n (numbers_in vs) ≡ false → ValuesTyped t vs → ValuesTyped (λ k. if n == k then u else t k) vs
typed_more t n u [] apart typed = tt
typed_more t n u (v ∷ vs) apart typed =
    let r = has_rest v.0 n (numbers_in vs) apart in
    (ap (λ b. if b then u else t v.0) (differ n v.0 (λ same. true≢false (sym (same_number v.0 n (sym same)) ∙ r.0))) ∙ typed.0, typed_more t n u vs r.1 typed.1)

pub typed_of : (vs : Values) → Distinct (numbers_in vs) → ValuesTyped (type_in vs) vs
typed_of [] distinct = tt
typed_of (v ∷ vs) (one_more single distinct) =
    (ap (λ b. if b then v.1 else type_in vs v.0) (same_number v.0 v.0 refl), typed_more (type_in vs) v.0 v.1 vs single (typed_of vs distinct))

values_split : (t : ℕ → PlainType) (vs ws : Values) → ValuesTyped t (vs ++ ws) → ValuesTyped t vs × ValuesTyped t ws
values_split t [] ws typed = (tt, typed)
values_split t (v ∷ vs) ws typed = let r = values_split t vs ws typed.1 in ((typed.0, r.0), r.1)

values_both : (t : ℕ → PlainType) (vs ws : Values) → ValuesTyped t vs → ValuesTyped t ws → ValuesTyped t (vs ++ ws)
values_both t [] ws a b = b
values_both t (v ∷ vs) ws a b = (a.0, values_both t vs ws a.1 b)

mutual
  pub op_typed : (t : ℕ → PlainType) (o : Op) (more : Values) → ValuesTyped t (op_values o more) → OpTyped t o × ValuesTyped t more
  op_typed t (op k rs os regions ls) more typed =
      let a = values_split t rs (regions_values regions more) typed in
      let b = regions_typed t regions more a.1 in ((a.0, b.0), b.1)

  ops_typed : (t : ℕ → PlainType) (os : Ops) (more : Values) → ValuesTyped t (ops_values os more) → OpsTyped t os × ValuesTyped t more
  ops_typed t end_of_ops more typed = (tt, typed)
  ops_typed t (more_ops o os) more typed =
      let a = op_typed t o (ops_values os more) typed in let b = ops_typed t os more a.1 in ((a.0, b.0), b.1)

  regions_typed : (t : ℕ → PlainType) (rs : Regions) (more : Values) → ValuesTyped t (regions_values rs more) → RegionsTyped t rs × ValuesTyped t more
  regions_typed t end_of_regions more typed = (tt, typed)
  regions_typed t (region blocks rest) more typed =
      let a = blocks_typed t blocks (regions_values rest more) typed in let b = regions_typed t rest more a.1 in ((a.0, b.0), b.1)

  blocks_typed : (t : ℕ → PlainType) (bs : Blocks) (more : Values) → ValuesTyped t (blocks_values bs more) → BlocksTyped t bs × ValuesTyped t more
  blocks_typed t end_of_blocks more typed = (tt, typed)
  blocks_typed t (block label args ops rest) more typed =
      let a = values_split t args (ops_values ops (blocks_values rest more)) typed in
      let b = ops_typed t ops (blocks_values rest more) a.1 in
      let c = blocks_typed t rest more b.1 in ((a.0, b.0, c.0), c.1)

mutual
  pub typed_op : (t : ℕ → PlainType) (o : Op) (more : Values) → OpTyped t o → ValuesTyped t more → ValuesTyped t (op_values o more)
  typed_op t (op k rs os regions ls) more a b = values_both t rs (regions_values regions more) a.0 (typed_regions t regions more a.1 b)

  typed_ops : (t : ℕ → PlainType) (os : Ops) (more : Values) → OpsTyped t os → ValuesTyped t more → ValuesTyped t (ops_values os more)
  typed_ops t end_of_ops more a b = b
  typed_ops t (more_ops o os) more a b = typed_op t o (ops_values os more) a.0 (typed_ops t os more a.1 b)

  typed_regions : (t : ℕ → PlainType) (rs : Regions) (more : Values) → RegionsTyped t rs → ValuesTyped t more → ValuesTyped t (regions_values rs more)
  typed_regions t end_of_regions more a b = b
  typed_regions t (region blocks rest) more a b = typed_blocks t blocks (regions_values rest more) a.0 (typed_regions t rest more a.1 b)

  typed_blocks : (t : ℕ → PlainType) (bs : Blocks) (more : Values) → BlocksTyped t bs → ValuesTyped t more → ValuesTyped t (blocks_values bs more)
  typed_blocks t end_of_blocks more a b = b
  typed_blocks t (block label args ops rest) more a b =
      values_both t args (ops_values ops (blocks_values rest more)) a.0 (typed_ops t ops (blocks_values rest more) a.1 (typed_blocks t rest more a.2 b))

-- two ways of typing the same values agree on them
pub typed_same : (s t : ℕ → PlainType) (vs : Values) (n : ℕ) → ValuesTyped s vs → ValuesTyped t vs → has n (numbers_in vs) ≡ true → s n ≡ t n
typed_same s t [] n a b h = absurd (true≢false (sym h))
typed_same s t (v ∷ vs) n a b h = go (v.0 == n) refl (typed_same s t vs n a.1 b.1)
  where
    go : (c : Bool) → (v.0 == n) ≡ c → (has n (numbers_in vs) ≡ true → s n ≡ t n) → s n ≡ t n
    go true is again = ap s (sym (eqb-true v.0 n is)) ∙ a.0 ∙ sym b.0 ∙ ap t (eqb-true v.0 n is)
    go false is again = again (sym (ap (λ c. c || has n (numbers_in vs)) is) ∙ h)

-- Distinct numbers in trees

distinct_split : (ms ns : List ℕ) → Distinct (ms ++ ns) → Distinct ms × Distinct ns
distinct_split [] ns distinct = (none_distinct, distinct)
distinct_split (m ∷ ms) ns (one_more single distinct) = let r = distinct_split ms ns distinct in (one_more (not_in ms ns m single) r.0, r.1)
  where
    not_in : (xs ys : List ℕ) (k : ℕ) → has k (xs ++ ys) ≡ false → has k xs ≡ false
    not_in [] ys k h = refl
    not_in (x ∷ xs) ys k h = let r = has_rest x k (xs ++ ys) h in ap (λ b. b || has k xs) r.0 ∙ not_in xs ys k r.1

pub numbers_joined : (vs ws : Values) → numbers_in (vs ++ ws) ≡ numbers_in vs ++ numbers_in ws
numbers_joined [] ws = refl
numbers_joined (v ∷ vs) ws = ap (λ ns. v.0 ∷ ns) (numbers_joined vs ws)

pub values_apart : (vs ws : Values) → Distinct (numbers_in (vs ++ ws)) → Distinct (numbers_in vs) × Distinct (numbers_in ws)
values_apart vs ws distinct = distinct_split (numbers_in vs) (numbers_in ws) (subst Distinct (numbers_joined vs ws) distinct)
