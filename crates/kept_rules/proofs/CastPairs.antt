-- Casts in a tree, and what a pair of them says of uses.
use Rattle.std.proofs.Common.{◌≡◌, ℕ, ◌+◌, ◌==◌, ◌≤◌, Bool, true, false, List, [], ◌∷◌, ◌++◌, Option, Some, None, refl, sym, ap, ◌∙◌, subst, arith, inl, inr, true≢false}
use Rattle.std.specs.Prelude.{◌||◌, ◌⊎◌, codes, if◌then◌else◌}
use Rattle.std.specs.Str.{bytes_eq}
use Rattle.std.proofs.lemmas.Option.{none-some}
use Rattle.std.proofs.lemmas.Bool.{eqb-true}
use Rattle.plain_tree.specs.Types.{PlainType, same_type}
use Rattle.plain_tree.specs.Ops.{Kind, Op, op, Ops, end_of_ops, more_ops, Regions, end_of_regions, region, Blocks, end_of_blocks, block, Values}
use Rattle.plain_tree.specs.Values.{blocks_values, op_values, ops_values, regions_values}
use Rattle.rule_model.specs.Words.{has, numbers}
use Rattle.rule_model.specs.Chains.{blocks_operands, blocks_used, op_operands, op_used, ops_operands, ops_used, regions_operands, regions_used}
use Rattle.rule_model.proofs.Numbers.{and_first, and_second, itself, not_true, some_same}
use Rattle.conversion_model.specs.Counts.{blocks_total, hits, none, op_total, ops_total, regions_total, values_total}
use Rattle.conversion_model.specs.Items.{blocks_size, op_size, ops_size}
use Rattle.conversion_model.specs.Uses.{blocks_listed, op_listed, operations, ops_listed, regions_listed, types_of}
use Rattle.conversion_model.specs.Reconciled.{Cast, cast_in, casts_in, first_pair, pair_of, pair_or, stands_for, undoes}
use Rattle.line_rules.specs.Lines.{HasValue}
use Rattle.kept_rules.specs.Casts.{UsesFor, UsesForBlocks, UsesForOps, UsesForRegions}
use Rattle.line_rules.proofs.Words.{has_left, has_right, not_so}
use Rattle.kept_rules.proofs.CastScopes.{some_value}
use Rattle.line_rules.proofs.LinedChains.{has_if}
use Rattle.line_rules.proofs.LinedValues.{behind_blocks, behind_op, behind_ops}
use Rattle.line_rules.proofs.Once.{value_left, value_right}

-- a cast of v to r of type t is the operation
abbrev pub CastHere : ℕ → ℕ → PlainType → Kind → Values → List ℕ → Type 0
CastHere v r t k rs os = (bytes_eq k.name (codes "builtin.unrealized_conversion_cast") ≡ true) × (rs ≡ (r, t) ∷ []) × (os ≡ v ∷ [])

abbrev mutual
  -- or is in it
  pub HasCast : ℕ → ℕ → PlainType → Op → Type 0
  HasCast v r t (op k rs os g ls) = CastHere v r t k rs os ⊎ HasCastRegions v r t g

  pub HasCastOps : ℕ → ℕ → PlainType → Ops → Type 0
  HasCastOps v r t end_of_ops = ⊥
  HasCastOps v r t (more_ops o os) = HasCast v r t o ⊎ HasCastOps v r t os

  pub HasCastRegions : ℕ → ℕ → PlainType → Regions → Type 0
  HasCastRegions v r t end_of_regions = ⊥
  HasCastRegions v r t (region b g) = HasCastBlocks v r t b ⊎ HasCastRegions v r t g

  pub HasCastBlocks : ℕ → ℕ → PlainType → Blocks → Type 0
  HasCastBlocks v r t end_of_blocks = ⊥
  HasCastBlocks v r t (block l args ops more) = HasCastOps v r t ops ⊎ HasCastBlocks v r t more

-- among casts
abbrev pub Among : Cast → List Cast → Type 0
Among c [] = ⊥
Among c (d ∷ ds) = (c ≡ d) ⊎ Among c ds

among_cases : (c : Cast) (xs ys : List Cast) → Among c (xs ++ ys) → Among c xs ⊎ Among c ys
among_cases c [] ys a = inr a
among_cases c (x ∷ xs) ys (inl e) = inl (inl e)
among_cases c (x ∷ xs) ys (inr a) = elim (among_cases c xs ys a) [ inl b ↦ inl (inr b) | inr b ↦ inr b ]

-- a cast that is listed for an operation
pub record Found (T : ℕ → PlainType) (P : ℕ → ℕ → PlainType → Type 0) (c : Cast) : Type 0 where
  pub from : c.from ≡ T c.operand
  pub there : P c.operand c.result c.to

here_found : (T : ℕ → PlainType) (k : Kind) (rs : Values) (os ls : List ℕ) (g : Regions) (c : Cast) → Among c (cast_in T (op k rs os g ls)) → Found T (λ v r t. CastHere v r t k rs os) c
here_found T k (x ∷ []) (y ∷ []) ls g c a = go (bytes_eq k.name (codes "builtin.unrealized_conversion_cast")) refl a
  where
    go : (b : Bool) → bytes_eq k.name (codes "builtin.unrealized_conversion_cast") ≡ b → Among c (if b then record { operand = y; from = T y; result = x.0; to = x.1 } ∷ [] else []) → Found T (λ v r t. CastHere v r t k (x ∷ []) (y ∷ [])) c
    go true e (inl same) = subst (λ (d : Cast). Found T (λ v r t. CastHere v r t k (x ∷ []) (y ∷ [])) d) (sym same) (record { from = refl; there = (e, refl, refl) })
    go true e (inr never) = absurd never
    go false e never = absurd never
here_found T k [] os ls g c a = absurd a
here_found T k (x ∷ z ∷ rs) os ls g c a = absurd a
here_found T k (x ∷ []) [] ls g c a = absurd a
here_found T k (x ∷ []) (y ∷ z ∷ os) ls g c a = absurd a

found_to : (T : ℕ → PlainType) (P Q : ℕ → ℕ → PlainType → Type 0) (c : Cast) → ((v r : ℕ) (t : PlainType) → P v r t → Q v r t) → Found T P c → Found T Q c
found_to T P Q c f x = record { from = x.from; there = f c.operand c.result c.to x.there }

mutual
  op_found : (T : ℕ → PlainType) (n : ℕ) (o : Op) (more : List (ℕ × Op)) (c : Cast) → Among c (casts_in T (op_listed n o more)) → Found T (λ v r t. HasCast v r t o) c ⊎ Among c (casts_in T more)
  op_found T n (op k rs os g ls) more c a = elim (among_cases c (cast_in T (op k rs os g ls)) (casts_in T (regions_listed (n + 1) g more)) a) [
    | inl b ↦ inl (found_to T (λ v r t. CastHere v r t k rs os) (λ v r t. HasCast v r t (op k rs os g ls)) c (λ v r t h. inl h) (here_found T k rs os ls g c b))
    | inr b ↦ elim (regions_found T (n + 1) g more c b) [
      | inl d ↦ inl (found_to T (λ v r t. HasCastRegions v r t g) (λ v r t. HasCast v r t (op k rs os g ls)) c (λ v r t h. inr h) d)
      | inr d ↦ inr d
    ]
  ]

  ops_found : (T : ℕ → PlainType) (n : ℕ) (os : Ops) (more : List (ℕ × Op)) (c : Cast) → Among c (casts_in T (ops_listed n os more)) → Found T (λ v r t. HasCastOps v r t os) c ⊎ Among c (casts_in T more)
  ops_found T n end_of_ops more c a = inr a
  ops_found T n (more_ops o os) more c a = elim (op_found T n o (ops_listed (n + op_size o) os more) c a) [
    | inl b ↦ inl (found_to T (λ v r t. HasCast v r t o) (λ v r t. HasCastOps v r t (more_ops o os)) c (λ v r t h. inl h) b)
    | inr b ↦ elim (ops_found T (n + op_size o) os more c b) [
      | inl d ↦ inl (found_to T (λ v r t. HasCastOps v r t os) (λ v r t. HasCastOps v r t (more_ops o os)) c (λ v r t h. inr h) d)
      | inr d ↦ inr d
    ]
  ]

  regions_found : (T : ℕ → PlainType) (n : ℕ) (rs : Regions) (more : List (ℕ × Op)) (c : Cast) → Among c (casts_in T (regions_listed n rs more)) → Found T (λ v r t. HasCastRegions v r t rs) c ⊎ Among c (casts_in T more)
  regions_found T n end_of_regions more c a = inr a
  regions_found T n (region b g) more c a = elim (blocks_found T n b (regions_listed (n + blocks_size b) g more) c a) [
    | inl d ↦ inl (found_to T (λ v r t. HasCastBlocks v r t b) (λ v r t. HasCastRegions v r t (region b g)) c (λ v r t h. inl h) d)
    | inr d ↦ elim (regions_found T (n + blocks_size b) g more c d) [
      | inl e ↦ inl (found_to T (λ v r t. HasCastRegions v r t g) (λ v r t. HasCastRegions v r t (region b g)) c (λ v r t h. inr h) e)
      | inr e ↦ inr e
    ]
  ]

  blocks_found : (T : ℕ → PlainType) (n : ℕ) (bs : Blocks) (more : List (ℕ × Op)) (c : Cast) → Among c (casts_in T (blocks_listed n bs more)) → Found T (λ v r t. HasCastBlocks v r t bs) c ⊎ Among c (casts_in T more)
  blocks_found T n end_of_blocks more c a = inr a
  blocks_found T n (block l args ops b) more c a = elim (ops_found T n ops (blocks_listed (n + ops_size ops) b more) c a) [
    | inl d ↦ inl (found_to T (λ v r t. HasCastOps v r t ops) (λ v r t. HasCastBlocks v r t (block l args ops b)) c (λ v r t h. inl h) d)
    | inr d ↦ elim (blocks_found T (n + ops_size ops) b more c d) [
      | inl e ↦ inl (found_to T (λ v r t. HasCastBlocks v r t b) (λ v r t. HasCastBlocks v r t (block l args ops b)) c (λ v r t h. inr h) e)
      | inr e ↦ inr e
    ]
  ]

-- The pair that reconciliation takes: r is a cast of w to t, w a cast of u, which has the type t, and u isn't r

pub record CastPair (f : Op) (p : ℕ × ℕ) : Type 0 where
  pub middle : ℕ
  pub to : PlainType
  pub between : PlainType
  pub last : HasCast middle p.0 to f
  pub first : HasCast p.1 middle between f
  pub type_there : same_type (types_of f p.1) to ≡ true
  pub apart : (p.1 == p.0) ≡ false

record Stood (c : Cast) (all : List Cast) (v : ℕ) : Type 0 where
  other : Cast
  among : Among other all
  undone : undoes c other ≡ true
  is : other.operand ≡ v

stood : (c : Cast) (ds : List Cast) (v : ℕ) → stands_for c ds ≡ Some v → Stood c ds v
stood c [] v e = absurd (none-some v e)
stood c (d ∷ ds) v e = go (undoes c d) refl e (stood c ds v)
  where
    go : (b : Bool) → undoes c d ≡ b → (if b then Some d.operand else stands_for c ds) ≡ Some v → (stands_for c ds ≡ Some v → Stood c ds v) → Stood c (d ∷ ds) v
    go true u f rest = record { other = d; among = inl refl; undone = u; is = some_same d.operand v f }
    go false u f rest = let s = rest f in record { other = s.other; among = inr s.among; undone = s.undone; is = s.is }

record PairFrom (all cs : List Cast) (p : ℕ × ℕ) : Type 0 where
  cast : Cast
  among : Among cast cs
  stands : Stood cast all p.1
  result : cast.result ≡ p.0

pair_from : (all cs : List Cast) (p : ℕ × ℕ) → first_pair all cs ≡ Some p → PairFrom all cs p
pair_from all [] p e = absurd (none-some p e)
pair_from all (c ∷ cs) p e = go (stands_for c all) refl e (pair_from all cs p)
  where
    go : (x : Option ℕ) → stands_for c all ≡ x → pair_or c x (first_pair all cs) ≡ Some p → (first_pair all cs ≡ Some p → PairFrom all cs p) → PairFrom all (c ∷ cs) p
    go None s f rest = let q = rest f in record { cast = q.cast; among = inr q.among; stands = q.stands; result = q.result }
    go (Some v) s f rest =
        let same : (c.result, v) ≡ p = some_same (c.result, v) p f in
        record { cast = c; among = inl refl; stands = subst (Stood c all) (ap (λ (q : ℕ × ℕ). q.1) same) (stood c all v s); result = ap (λ (q : ℕ × ℕ). q.0) same }

-- two casts of which the one undoes the other
pub pair_by : (f : Op) (c d : Cast) → Among c (casts_in (types_of f) (operations f)) → Among d (casts_in (types_of f) (operations f)) → undoes c d ≡ true → CastPair f (c.result, d.operand)
pair_by f c d there earlier undone =
    let fc = only (op_found (types_of f) 0 f [] c there) in
    let fd = only (op_found (types_of f) 0 f [] d earlier) in
    let rest = and_second (d.result == c.operand) _ undone in
    record {
      middle = c.operand;
      to = c.to;
      between = d.to;
      last = fc.there;
      first = subst (λ x. HasCast d.operand x d.to f) (eqb-true d.result c.operand (and_first (d.result == c.operand) _ undone)) fd.there;
      type_there = ap (λ x. same_type x c.to) (sym fd.from) ∙ and_first (same_type d.from c.to) _ rest;
      apart = not_true (d.operand == c.result) (and_second (same_type d.from c.to) _ rest);
    }
  where
    only : {A : Type 0} → A ⊎ ⊥ → A
    only (inl a) = a
    only (inr never) = absurd never

-- the two casts that are found
pub record FoundPair (f : Op) (p : ℕ × ℕ) : Type 0 where
  pub cast : Cast
  pub earlier : Cast
  pub there : Among cast (casts_in (types_of f) (operations f))
  pub earlier_there : Among earlier (casts_in (types_of f) (operations f))
  pub undone : undoes cast earlier ≡ true
  pub is : (cast.result, earlier.operand) ≡ p

pub found_pair : (f : Op) (p : ℕ × ℕ) → pair_of f ≡ Some p → FoundPair f p
found_pair f p e =
    let all : List Cast = casts_in (types_of f) (operations f) in
    let q = pair_from all all p e in
    let s = q.stands in
    record {
      cast = q.cast;
      earlier = s.other;
      there = q.among;
      earlier_there = s.among;
      undone = s.undone;
      is = ap (λ n. (n, s.other.operand)) q.result ∙ ap (λ n. (p.0, n)) s.is;
    }

pub pair_found : (f : Op) (p : ℕ × ℕ) → pair_of f ≡ Some p → CastPair f p
pair_found f p e = let x = found_pair f p e in subst (CastPair f) x.is (pair_by f x.cast x.earlier x.there x.earlier_there x.undone)

-- What a cast says, where its result is defined once

-- nothing where it isn't defined
values_none : (r : ℕ) (vs : Values) → values_total (hits r) vs ≡ 0 → has r (numbers vs) ≡ false
values_none r vs e = not_so (has r (numbers vs)) (λ h. absurd (omega (arith, some_value r vs h, e)))

no_use : (r : ℕ) (rs : Values) {P : Type 0} → values_total (hits r) rs ≡ 0 → has r (numbers rs) ≡ true → P
no_use r rs e h = absurd (true≢false (sym h ∙ values_none r rs e))

mutual
  op_none : (r v : ℕ) (o : Op) → op_total (hits r) none o ≡ 0 → UsesFor r v o
  op_none r v (op k rs os g ls) e = (no_use r rs (omega (arith, e)), regions_none r v g (omega (arith, e)))

  ops_none : (r v : ℕ) (os : Ops) → ops_total (hits r) none os ≡ 0 → UsesForOps r v os
  ops_none r v end_of_ops e = tt
  ops_none r v (more_ops o os) e = (op_none r v o (omega (arith, e)), ops_none r v os (omega (arith, e)))

  regions_none : (r v : ℕ) (rs : Regions) → regions_total (hits r) none rs ≡ 0 → UsesForRegions r v rs
  regions_none r v end_of_regions e = tt
  regions_none r v (region b g) e = (blocks_none r v b (omega (arith, e)), regions_none r v g (omega (arith, e)))

  blocks_none : (r v : ℕ) (bs : Blocks) → blocks_total (hits r) none bs ≡ 0 → UsesForBlocks r v bs
  blocks_none r v end_of_blocks e = tt
  blocks_none r v (block l args ops b) e = (values_none r args (omega (arith, e)), ops_none r v ops (omega (arith, e)), blocks_none r v b (omega (arith, e)))

one_hit : (r : ℕ) (t : PlainType) (rs : Values) → rs ≡ (r, t) ∷ [] → 1 ≤ values_total (hits r) rs
one_hit r t rs e = subst (λ vs. 1 ≤ values_total (hits r) vs) (sym e) (omega (arith, ap {B = ℕ} (λ b. if b then 1 else 0) (itself r)))

mutual
  op_counts : (v r : ℕ) (t : PlainType) (o : Op) → HasCast v r t o → 1 ≤ op_total (hits r) none o
  op_counts v r t (op k rs os g ls) (inl h) = omega (arith, one_hit r t rs h.1)
  op_counts v r t (op k rs os g ls) (inr h) = omega (arith, regions_count v r t g h)

  ops_counts : (v r : ℕ) (t : PlainType) (os : Ops) → HasCastOps v r t os → 1 ≤ ops_total (hits r) none os
  ops_counts v r t end_of_ops h = absurd h
  ops_counts v r t (more_ops o os) (inl h) = omega (arith, op_counts v r t o h)
  ops_counts v r t (more_ops o os) (inr h) = omega (arith, ops_counts v r t os h)

  regions_count : (v r : ℕ) (t : PlainType) (rs : Regions) → HasCastRegions v r t rs → 1 ≤ regions_total (hits r) none rs
  regions_count v r t end_of_regions h = absurd h
  regions_count v r t (region b g) (inl h) = omega (arith, blocks_count v r t b h)
  regions_count v r t (region b g) (inr h) = omega (arith, regions_count v r t g h)

  blocks_count : (v r : ℕ) (t : PlainType) (bs : Blocks) → HasCastBlocks v r t bs → 1 ≤ blocks_total (hits r) none bs
  blocks_count v r t end_of_blocks h = absurd h
  blocks_count v r t (block l args ops b) (inl h) = omega (arith, ops_counts v r t ops h)
  blocks_count v r t (block l args ops b) (inr h) = omega (arith, blocks_count v r t b h)

mutual
  op_uses_for : (v r : ℕ) (t : PlainType) (o : Op) → HasCast v r t o → op_total (hits r) none o ≤ 1 → UsesFor r v o
  op_uses_for v r t (op k rs os g ls) (inl h) e =
      (λ a. subst (λ xs. has v xs ≡ true) (sym h.2) (ap (λ b. b || false) (itself v)), regions_none r v g (omega (arith, one_hit r t rs h.1, e)))
  op_uses_for v r t (op k rs os g ls) (inr h) e = (no_use r rs (omega (arith, regions_count v r t g h, e)), regions_use_for v r t g h (omega (arith, e)))

  ops_use_for : (v r : ℕ) (t : PlainType) (os : Ops) → HasCastOps v r t os → ops_total (hits r) none os ≤ 1 → UsesForOps r v os
  ops_use_for v r t end_of_ops h e = absurd h
  ops_use_for v r t (more_ops o os) (inl h) e = (op_uses_for v r t o h (omega (arith, e)), ops_none r v os (omega (arith, op_counts v r t o h, e)))
  ops_use_for v r t (more_ops o os) (inr h) e = (op_none r v o (omega (arith, ops_counts v r t os h, e)), ops_use_for v r t os h (omega (arith, e)))

  pub regions_use_for : (v r : ℕ) (t : PlainType) (rs : Regions) → HasCastRegions v r t rs → regions_total (hits r) none rs ≤ 1 → UsesForRegions r v rs
  regions_use_for v r t end_of_regions h e = absurd h
  regions_use_for v r t (region b g) (inl h) e = (blocks_use_for v r t b h (omega (arith, e)), regions_none r v g (omega (arith, blocks_count v r t b h, e)))
  regions_use_for v r t (region b g) (inr h) e = (blocks_none r v b (omega (arith, regions_count v r t g h, e)), regions_use_for v r t g h (omega (arith, e)))

  blocks_use_for : (v r : ℕ) (t : PlainType) (bs : Blocks) → HasCastBlocks v r t bs → blocks_total (hits r) none bs ≤ 1 → UsesForBlocks r v bs
  blocks_use_for v r t end_of_blocks h e = absurd h
  blocks_use_for v r t (block l args ops b) (inl h) e =
      (values_none r args (omega (arith, ops_counts v r t ops h, e)), ops_use_for v r t ops h (omega (arith, e)), blocks_none r v b (omega (arith, ops_counts v r t ops h, e)))
  blocks_use_for v r t (block l args ops b) (inr h) e =
      (values_none r args (omega (arith, blocks_count v r t b h, e)), ops_none r v ops (omega (arith, blocks_count v r t b h, e)), blocks_use_for v r t b h (omega (arith, e)))

-- the cast's result uses its operand

mutual
  pub op_cast_used : (v r : ℕ) (t : PlainType) (o : Op) → HasCast v r t o → has v (op_used r o) ≡ true
  op_cast_used v r t (op k rs os g ls) (inl h) =
      has_left v (if has r (numbers rs) then os ++ regions_operands g else []) (regions_used r g)
      (has_if v (has r (numbers rs)) (os ++ regions_operands g) (subst (λ vs. has r (numbers vs) ≡ true) (sym h.1) (ap (λ b. b || false) (itself r)))
      (has_left v os (regions_operands g) (subst (λ xs. has v xs ≡ true) (sym h.2) (ap (λ b. b || false) (itself v)))))
  op_cast_used v r t (op k rs os g ls) (inr h) = has_right v (if has r (numbers rs) then os ++ regions_operands g else []) (regions_used r g) (regions_cast_used v r t g h)

  ops_cast_used : (v r : ℕ) (t : PlainType) (os : Ops) → HasCastOps v r t os → has v (ops_used r os) ≡ true
  ops_cast_used v r t end_of_ops h = absurd h
  ops_cast_used v r t (more_ops o os) (inl h) = has_left v (op_used r o) (ops_used r os) (op_cast_used v r t o h)
  ops_cast_used v r t (more_ops o os) (inr h) = has_right v (op_used r o) (ops_used r os) (ops_cast_used v r t os h)

  regions_cast_used : (v r : ℕ) (t : PlainType) (rs : Regions) → HasCastRegions v r t rs → has v (regions_used r rs) ≡ true
  regions_cast_used v r t end_of_regions h = absurd h
  regions_cast_used v r t (region b g) (inl h) = has_left v (blocks_used r b) (regions_used r g) (blocks_cast_used v r t b h)
  regions_cast_used v r t (region b g) (inr h) = has_right v (blocks_used r b) (regions_used r g) (regions_cast_used v r t g h)

  blocks_cast_used : (v r : ℕ) (t : PlainType) (bs : Blocks) → HasCastBlocks v r t bs → has v (blocks_used r bs) ≡ true
  blocks_cast_used v r t end_of_blocks h = absurd h
  blocks_cast_used v r t (block l args ops b) (inl h) = has_left v (ops_used r ops) (blocks_used r b) (ops_cast_used v r t ops h)
  blocks_cast_used v r t (block l args ops b) (inr h) = has_right v (ops_used r ops) (blocks_used r b) (blocks_cast_used v r t b h)

-- its result is a value of the tree, and its operand an operand

mutual
  pub op_cast_value : (v r : ℕ) (t : PlainType) (o : Op) (more : Values) → HasCast v r t o → HasValue r t (op_values o more)
  op_cast_value v r t (op k rs os g ls) more (inl h) = value_left r t rs (regions_values g more) (subst (HasValue r t) (sym h.1) (inl (refl, refl)))
  op_cast_value v r t (op k rs os g ls) more (inr h) = value_right r t rs (regions_values g more) (regions_cast_value v r t g more h)

  ops_cast_value : (v r : ℕ) (t : PlainType) (os : Ops) (more : Values) → HasCastOps v r t os → HasValue r t (ops_values os more)
  ops_cast_value v r t end_of_ops more h = absurd h
  ops_cast_value v r t (more_ops o os) more (inl h) = op_cast_value v r t o (ops_values os more) h
  ops_cast_value v r t (more_ops o os) more (inr h) = behind_op r t o (ops_values os more) (ops_cast_value v r t os more h)

  regions_cast_value : (v r : ℕ) (t : PlainType) (rs : Regions) (more : Values) → HasCastRegions v r t rs → HasValue r t (regions_values rs more)
  regions_cast_value v r t end_of_regions more h = absurd h
  regions_cast_value v r t (region b g) more (inl h) = blocks_cast_value v r t b (regions_values g more) h
  regions_cast_value v r t (region b g) more (inr h) = behind_blocks r t b (regions_values g more) (regions_cast_value v r t g more h)

  blocks_cast_value : (v r : ℕ) (t : PlainType) (bs : Blocks) (more : Values) → HasCastBlocks v r t bs → HasValue r t (blocks_values bs more)
  blocks_cast_value v r t end_of_blocks more h = absurd h
  blocks_cast_value v r t (block l args ops b) more (inl h) = value_right r t args (ops_values ops (blocks_values b more)) (ops_cast_value v r t ops (blocks_values b more) h)
  blocks_cast_value v r t (block l args ops b) more (inr h) = value_right r t args (ops_values ops (blocks_values b more)) (behind_ops r t ops (blocks_values b more) (blocks_cast_value v r t b more h))

mutual
  pub op_cast_operand : (v r : ℕ) (t : PlainType) (o : Op) → HasCast v r t o → has v (op_operands o) ≡ true
  op_cast_operand v r t (op k rs os g ls) (inl h) = has_left v os (regions_operands g) (subst (λ xs. has v xs ≡ true) (sym h.2) (ap (λ b. b || false) (itself v)))
  op_cast_operand v r t (op k rs os g ls) (inr h) = has_right v os (regions_operands g) (regions_cast_operand v r t g h)

  ops_cast_operand : (v r : ℕ) (t : PlainType) (os : Ops) → HasCastOps v r t os → has v (ops_operands os) ≡ true
  ops_cast_operand v r t end_of_ops h = absurd h
  ops_cast_operand v r t (more_ops o os) (inl h) = has_left v (op_operands o) (ops_operands os) (op_cast_operand v r t o h)
  ops_cast_operand v r t (more_ops o os) (inr h) = has_right v (op_operands o) (ops_operands os) (ops_cast_operand v r t os h)

  regions_cast_operand : (v r : ℕ) (t : PlainType) (rs : Regions) → HasCastRegions v r t rs → has v (regions_operands rs) ≡ true
  regions_cast_operand v r t end_of_regions h = absurd h
  regions_cast_operand v r t (region b g) (inl h) = has_left v (blocks_operands b) (regions_operands g) (blocks_cast_operand v r t b h)
  regions_cast_operand v r t (region b g) (inr h) = has_right v (blocks_operands b) (regions_operands g) (regions_cast_operand v r t g h)

  blocks_cast_operand : (v r : ℕ) (t : PlainType) (bs : Blocks) → HasCastBlocks v r t bs → has v (blocks_operands bs) ≡ true
  blocks_cast_operand v r t end_of_blocks h = absurd h
  blocks_cast_operand v r t (block l args ops b) (inl h) = has_left v (ops_operands ops) (blocks_operands b) (ops_cast_operand v r t ops h)
  blocks_cast_operand v r t (block l args ops b) (inr h) = has_right v (ops_operands ops) (blocks_operands b) (blocks_cast_operand v r t b h)
