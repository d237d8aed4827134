-- Rule `Defined` is kept where the uses of r become uses of u, r being defined by operations that use w, and w by such that use u.
use Rattle.std.proofs.Common.{◌≡◌, ℕ, ◌==◌, ◌≤◌, Bool, true, false, List, [], ◌∷◌, ◌++◌, Some, refl, sym, ap, ◌∙◌, subst, map, arith, inl, inr, true≢false}
use Rattle.std.specs.Prelude.{◌||◌, ◌⊎◌, if◌then◌else◌}
use Rattle.std.proofs.lemmas.Option.{none-some}
use Rattle.std.proofs.lemmas.Bool.{eqb-true}
use Rattle.plain_tree.specs.Ops.{Kind, Op, op, Ops, end_of_ops, more_ops, Regions, end_of_regions, region, Blocks, end_of_blocks, block, PlainBlock, Values}
use Rattle.rule_model.specs.Words.{binds, binds_in_ops, block_of, first_block, has, numbers}
use Rattle.rule_model.specs.Paths.{ends, enters, jumps, passes, Reach}
use Rattle.rule_model.specs.Scopes.{DefinedAt, DefinedBlocks, DefinedFunction, DefinedOps, DefinedRegions, FreeBlocks, FreeOp, FreeOps, FreeRegions}
use Rattle.rule_model.proofs.Numbers.{all_of, has_of, itself, some_same}
use Rattle.rule_model.proofs.ScopeLaws.{reached_without}
use Rattle.conversion_model.specs.Counts.{blocks_total, hits, none, regions_total}
use Rattle.conversion_model.specs.Uses.{blocks_uses, op_uses, ops_uses, regions_uses, replaced}
use Rattle.kept_rules.specs.Casts.{UsesForBlocks, UsesForOps, UsesForRegions}
use Rattle.line_rules.proofs.Words.{by_test, clash, or_left, or_right}
use Rattle.line_rules.proofs.Follows.{Alike, binds_it, both, both_end, followed, Near, NoneReached, Started, starts_near, unused}
use Rattle.line_rules.proofs.LinedScopes.{behind, free_blocks, Settled, Within}
use Rattle.kept_rules.proofs.CastScopes.{blocks_use, deeper_blocks, deeper_most, deeper_ops, defined_through, from_either, none_bound, none_deeper, reach_through, to_either}

-- an operand that was replaced
pub record Was (to : ℕ → ℕ) (os : List ℕ) (x : ℕ) : Type 0 where
  pub number : ℕ
  pub among : has number os ≡ true
  pub is : to number ≡ x

pub was_of : (to : ℕ → ℕ) (os : List ℕ) (x : ℕ) → has x (map to os) ≡ true → Was to os x
was_of to [] x h = absurd (true≢false (sym h))
was_of to (o ∷ os) x h = go (to o == x) refl h (was_of to os x)
  where
    later : (b : Bool) {c : Bool} → c ≡ true → (b || c) ≡ true
    later true e = refl
    later false e = e

    go : (b : Bool) → (to o == x) ≡ b → (b || has x (map to os)) ≡ true → (has x (map to os) ≡ true → Was to os x) → Was to (o ∷ os) x
    go true e f rest = record { number = o; among = ap (λ b. b || has o os) (itself o); is = eqb-true (to o) x e }
    go false e f rest = let found = rest f in record { number = found.number; among = later (o == found.number) found.among; is = found.is }

-- the values and labels of a tree stay

pub ops_bind : (v : ℕ) (to : ℕ → ℕ) (os : Ops) → binds_in_ops v (ops_uses to os) ≡ binds_in_ops v os
ops_bind v to end_of_ops = refl
ops_bind v to (more_ops (op k rs os r ls) rest) = ap (λ b. has v (numbers rs) || b) (ops_bind v to rest)

pub blocks_bind : (v : ℕ) (to : ℕ → ℕ) (bs : Blocks) → binds v (blocks_uses to bs) ≡ binds v bs
blocks_bind v to end_of_blocks = refl
blocks_bind v to (block l args ops more) =
    ap (λ b. has v (numbers args) || (b || binds v (blocks_uses to more))) (ops_bind v to ops) ∙ ap (λ b. has v (numbers args) || (binds_in_ops v ops || b)) (blocks_bind v to more)

-- where a path comes to, something is used freely in the region

first_free : (x : ℕ) (bs : Blocks) (b : PlainBlock) → first_block bs ≡ Some b → FreeOps x b.ops → FreeBlocks x bs
first_free x end_of_blocks b e f = absurd (none-some b e)
first_free x (block l args ops more) b e f = inl (subst (λ (c : PlainBlock). FreeOps x c.ops) (sym (some_same (record { label = l; args = args; ops = ops }) b e)) f)

block_free : (x t : ℕ) (bs : Blocks) (b : PlainBlock) → block_of t bs ≡ Some b → FreeOps x b.ops → FreeBlocks x bs
block_free x t end_of_blocks b e f = absurd (none-some b e)
block_free x t (block l args ops more) b e f = go (l == t) e (λ k. block_free x t more b k f)
  where
    go : (y : Bool) → (if y then Some (record { label = l; args = args; ops = ops }) else block_of t more) ≡ Some b → (block_of t more ≡ Some b → FreeBlocks x more) → FreeBlocks x (block l args ops more)
    go true k later = inl (subst (λ (c : PlainBlock). FreeOps x c.ops) (sym (some_same (record { label = l; args = args; ops = ops }) b k)) f)
    go false k later = inr (later k)

reach_free : {bs : Blocks} (x : ℕ) {v l : ℕ} {bound : List ℕ} {ops : Ops} → Reach bs v l bound ops → FreeOps x ops → FreeBlocks x bs
reach_free {bs = bs} x (enters b e f) u = first_free x bs b e u
reach_free x (passes o r e f) u = reach_free x r (inr u)
reach_free {bs = bs} x (jumps o t b r e h is f) u = block_free x t bs b is u

module _ (r w u : ℕ) where
  abbrev to : ℕ → ℕ
  to = replaced r u

  -- what a number is where it was another
  same_or : (y x : ℕ) → to y ≡ x → (y ≡ x) ⊎ ((y ≡ r) × (x ≡ u))
  same_or y x e = go (y == r) refl e
    where
      go : (b : Bool) → (y == r) ≡ b → (if b then u else y) ≡ x → (y ≡ x) ⊎ ((y ≡ r) × (x ≡ u))
      go true same f = inr (eqb-true y r same, sym f)
      go false other f = inl f

  -- what is known of a part of the tree
  pub record Part (rs : Regions) : Type 0 where
    pub first : UsesForRegions r w rs
    pub second : UsesForRegions w u rs
    pub one_w : regions_total (hits w) none rs ≤ 1
    pub one_u : regions_total (hits u) none rs ≤ 1

  -- where r is defined outside so is w, and where w is so is u; what is defined outside isn't within
  pub record Lead (was : ℕ → Type 0) (rs : Regions) : Type 0 where
    pub rw : was r → was w
    pub wu : was w → was u
    pub out_w : was w → regions_total (hits w) none rs ≡ 0
    pub out_u : was u → regions_total (hits u) none rs ≡ 0

  -- the same of one region
  pub record Region (was : ℕ → Type 0) (b : Blocks) : Type 0 where
    pub defined : DefinedBlocks b was b
    pub first : UsesForBlocks r w b
    pub second : UsesForBlocks w u b
    pub one_w : blocks_total (hits w) none b ≤ 1
    pub one_u : blocks_total (hits u) none b ≤ 1
    pub rw : was r → was w
    pub wu : was w → was u
    pub out_w : was w → blocks_total (hits w) none b ≡ 0
    pub out_u : was u → blocks_total (hits u) none b ≡ 0

  first_region : (was : ℕ → Type 0) (b : Blocks) (rs : Regions) → DefinedBlocks b was b → Part (region b rs) → Lead was (region b rs) → Region was b
  first_region was b rs d p l = record {
    defined = d;
    first = p.first.0;
    second = p.second.0;
    one_w = omega (arith, p.one_w);
    one_u = omega (arith, p.one_u);
    rw = l.rw;
    wu = l.wu;
    out_w = λ h. omega (arith, l.out_w h);
    out_u = λ h. omega (arith, l.out_u h);
  }

  later_part : (b : Blocks) (rs : Regions) → Part (region b rs) → Part rs
  later_part b rs p = record { first = p.first.1; second = p.second.1; one_w = omega (arith, p.one_w); one_u = omega (arith, p.one_u) }

  later_lead : (was : ℕ → Type 0) (b : Blocks) (rs : Regions) → Lead was (region b rs) → Lead was rs
  later_lead was b rs l = record { rw = l.rw; wu = l.wu; out_w = λ h. omega (arith, l.out_w h); out_u = λ h. omega (arith, l.out_u h) }

  -- what is left of a block
  pub record Left (b : Blocks) (ops : Ops) : Type 0 where
    pub first : UsesForOps r w ops
    pub second : UsesForOps w u ops
    pub low_w : deeper_ops w ops ≤ deeper_blocks w b
    pub low_u : deeper_ops u ops ≤ deeper_blocks u b
    pub all_w : deeper_blocks w b ≤ 1
    pub all_u : deeper_blocks u b ≤ 1

  at_rw : (was : ℕ → Type 0) (b : Blocks) (l : ℕ) (bound : List ℕ) (ops : Ops) → Region was b → DefinedAt b was l bound ops r → DefinedAt b was l bound ops w
  at_rw was b l bound ops g h = defined_through b r w was l bound ops g.defined g.first g.rw (λ x. none_bound w b (g.out_w x)) h

  at_wu : (was : ℕ → Type 0) (b : Blocks) (l : ℕ) (bound : List ℕ) (ops : Ops) → Region was b → DefinedAt b was l bound ops w → DefinedAt b was l bound ops u
  at_wu was b l bound ops g h = defined_through b w u was l bound ops g.defined g.second g.wu (λ x. none_bound u b (g.out_u x)) h

  inner_part : (b : Blocks) (k : Kind) (rs : Values) (os ls : List ℕ) (rr : Regions) (rest : Ops) → Left b (more_ops (op k rs os rr ls) rest) → Part rr
  inner_part b k rs os ls rr rest f = record { first = f.first.0.1; second = f.second.0.1; one_w = omega (arith, f.low_w, f.all_w); one_u = omega (arith, f.low_u, f.all_u) }

  inner_lead : (was : ℕ → Type 0) (b : Blocks) (l : ℕ) (bound : List ℕ) (k : Kind) (rs : Values) (os ls : List ℕ) (rr : Regions) (rest : Ops) → Region was b → Left b (more_ops (op k rs os rr ls) rest)
      → Lead (DefinedAt b was l bound (more_ops (op k rs os rr ls) rest)) rr
  inner_lead was b l bound k rs os ls rr rest g f = record {
    rw = at_rw was b l bound (more_ops (op k rs os rr ls) rest) g;
    wu = at_wu was b l bound (more_ops (op k rs os rr ls) rest) g;
    out_w = λ h. omega (arith, none_deeper w b was l bound (more_ops (op k rs os rr ls) rest) g.one_w g.out_w h, f.low_w);
    out_u = λ h. omega (arith, none_deeper u b was l bound (more_ops (op k rs os rr ls) rest) g.one_u g.out_u h, f.low_u);
  }

  left_on : (b : Blocks) (k : Kind) (rs : Values) (os ls : List ℕ) (rr : Regions) (rest : Ops) → Left b (more_ops (op k rs os rr ls) rest) → Left b rest
  left_on b k rs os ls rr rest f = record { first = f.first.1; second = f.second.1; low_w = omega (arith, f.low_w); low_u = omega (arith, f.low_u); all_w = f.all_w; all_u = f.all_u }

  -- the blocks that are left of a region
  pub record LeftBlocks (b cs : Blocks) : Type 0 where
    pub first : UsesForBlocks r w cs
    pub second : UsesForBlocks w u cs
    pub low_w : deeper_blocks w cs ≤ deeper_blocks w b
    pub low_u : deeper_blocks u cs ≤ deeper_blocks u b
    pub all_w : deeper_blocks w b ≤ 1
    pub all_u : deeper_blocks u b ≤ 1

  all_blocks : (was : ℕ → Type 0) (b : Blocks) → Region was b → LeftBlocks b b
  all_blocks was b g = record { first = g.first; second = g.second; low_w = omega arith; low_u = omega arith; all_w = omega (arith, deeper_most w b, g.one_w); all_u = omega (arith, deeper_most u b, g.one_u) }

  block_ops : (b : Blocks) (l : ℕ) (args : Values) (ops : Ops) (more : Blocks) → LeftBlocks b (block l args ops more) → Left b ops
  block_ops b l args ops more f = record { first = f.first.1; second = f.second.1; low_w = omega (arith, f.low_w); low_u = omega (arith, f.low_u); all_w = f.all_w; all_u = f.all_u }

  blocks_on : (b : Blocks) (l : ℕ) (args : Values) (ops : Ops) (more : Blocks) → LeftBlocks b (block l args ops more) → LeftBlocks b more
  blocks_on b l args ops more f = record { first = f.first.2; second = f.second.2; low_w = omega (arith, f.low_w); low_u = omega (arith, f.low_u); all_w = f.all_w; all_u = f.all_u }

  -- Free uses of the new tree are defined outside

  use_here : (here : ℕ → Type 0) (x y : ℕ) → (here r → here w) → (here w → here u) → to y ≡ x → here y → here x
  use_here here x y rw wu e h = elim (same_or y x e) [
    | inl s ↦ subst here s h
    | inr s ↦ subst here (sym s.1) (wu (rw (subst here s.0 h)))
  ]

  mutual
    free_ops : (x : ℕ) (was : ℕ → Type 0) (b : Blocks) (l : ℕ) (bound : List ℕ) (ops : Ops) → Region was b → Left b ops → DefinedOps b was l bound ops → binds x b ≡ false → FreeOps x (ops_uses to ops) → was x
    free_ops x was b l bound end_of_ops g f d apart h = absurd h
    free_ops x was b l bound (more_ops (op k rs os rr ls) rest) g f d apart (inl (inl h)) =
        let y = was_of to os x h in
        from_either (binds x b) (Reach b x l bound (more_ops (op k rs os rr ls) rest) → ⊥) (was x)
        (use_here (DefinedAt b was l bound (more_ops (op k rs os rr ls) rest)) x y.number (at_rw was b l bound (more_ops (op k rs os rr ls) rest) g) (at_wu was b l bound (more_ops (op k rs os rr ls) rest) g) y.is
        (has_of (DefinedAt b was l bound (more_ops (op k rs os rr ls) rest)) y.number os d.0.0 y.among))
        (λ e never. clash e apart) (λ e o. o)
    free_ops x was b l bound (more_ops (op k rs os rr ls) rest) g f d apart (inl (inr h)) =
        from_either (binds x b) (Reach b x l bound (more_ops (op k rs os rr ls) rest) → ⊥) (was x)
        (free_in x (DefinedAt b was l bound (more_ops (op k rs os rr ls) rest)) rr (inner_part b k rs os ls rr rest f) (inner_lead was b l bound k rs os ls rr rest g f) d.0.1 h)
        (λ e never. clash e apart) (λ e o. o)
    free_ops x was b l bound (more_ops (op k rs os rr ls) rest) g f d apart (inr h) = free_ops x was b l (numbers rs ++ bound) rest g (left_on b k rs os ls rr rest f) d.1 apart h

    pub free_in : (x : ℕ) (was : ℕ → Type 0) (rs : Regions) → Part rs → Lead was rs → DefinedRegions was rs → FreeRegions x (regions_uses to rs) → was x
    free_in x was end_of_regions p lead d h = absurd h
    free_in x was (region b rs) p lead d (inl h) =
        let g = first_region was b rs d.0 p lead in
        free_blocks_in x was b b g (all_blocks was b g) d.0 (sym (blocks_bind x to b) ∙ h.0) h.1
    free_in x was (region b rs) p lead d (inr h) = free_in x was rs (later_part b rs p) (later_lead was b rs lead) d.1 h

    free_blocks_in : (x : ℕ) (was : ℕ → Type 0) (b cs : Blocks) → Region was b → LeftBlocks b cs → DefinedBlocks b was cs → binds x b ≡ false → FreeBlocks x (blocks_uses to cs) → was x
    free_blocks_in x was b end_of_blocks g f d apart h = absurd h
    free_blocks_in x was b (block l args ops more) g f d apart (inl h) = free_ops x was b l (numbers args) ops g (block_ops b l args ops more f) d.0 apart h
    free_blocks_in x was b (block l args ops more) g f d apart (inr h) = free_blocks_in x was b more g (blocks_on b l args ops more f) d.1 apart h

  -- Free uses of the new tree were free uses, of x or of what came to it

  abbrev Came : ℕ → (ℕ → Type 0) → Type 0
  Came x free = free x ⊎ ((x ≡ u) × (free r ⊎ free w))

  came : (x : ℕ) (P Q : ℕ → Type 0) → ((y : ℕ) → P y → Q y) → Came x P → Came x Q
  came x P Q f (inl h) = inl (f x h)
  came x P Q f (inr h) = inr (h.0, elim h.1 [ inl a ↦ inl (f r a) | inr a ↦ inr (f w a) ])

  -- of a region's blocks, where it doesn't define x
  out_of : (x : ℕ) (b : Blocks) (rs : Regions) → UsesForBlocks r w b → UsesForBlocks w u b → binds x b ≡ false → Came x (λ y. FreeBlocks y b) → Came x (λ y. FreeRegions y (region b rs))
  out_of x b rs f s apart (inl h) = inl (inl (apart, h))
  out_of x b rs f s apart (inr h) = elim h.1 [
    | inl a ↦ by_test (binds r b) (λ e. by_w (blocks_use r w b f e)) (λ e. inr (h.0, inl (inl (e, a))))
    | inr a ↦ by_w a
  ]
    where
      by_w : FreeBlocks w b → Came x (λ y. FreeRegions y (region b rs))
      by_w a = by_test (binds w b) (λ e. inl (inl (apart, subst (λ y. FreeBlocks y b) (sym h.0) (blocks_use w u b s e)))) (λ e. inr (h.0, inr (inl (e, a))))

  operand_came : (x : ℕ) (os : List ℕ) → has x (map to os) ≡ true → Came x (λ y. has y os ≡ true)
  operand_came x os h =
      let y = was_of to os x h in
      elim (same_or y.number x y.is) [
        | inl s ↦ inl (subst (λ z. has z os ≡ true) s y.among)
        | inr s ↦ inr (s.1, inl (subst (λ z. has z os ≡ true) s.0 y.among))
      ]

  mutual
    ops_came : (x : ℕ) (ops : Ops) → UsesForOps r w ops → UsesForOps w u ops → FreeOps x (ops_uses to ops) → Came x (λ y. FreeOps y ops)
    ops_came x end_of_ops f s h = absurd h
    ops_came x (more_ops (op k rs os rr ls) rest) f s (inl (inl h)) = came x (λ y. has y os ≡ true) (λ y. FreeOps y (more_ops (op k rs os rr ls) rest)) (λ y a. inl (inl a)) (operand_came x os h)
    ops_came x (more_ops (op k rs os rr ls) rest) f s (inl (inr h)) = came x (λ y. FreeRegions y rr) (λ y. FreeOps y (more_ops (op k rs os rr ls) rest)) (λ y a. inl (inr a)) (regions_came x rr f.0.1 s.0.1 h)
    ops_came x (more_ops (op k rs os rr ls) rest) f s (inr h) = came x (λ y. FreeOps y rest) (λ y. FreeOps y (more_ops (op k rs os rr ls) rest)) (λ y a. inr a) (ops_came x rest f.1 s.1 h)

    regions_came : (x : ℕ) (rs : Regions) → UsesForRegions r w rs → UsesForRegions w u rs → FreeRegions x (regions_uses to rs) → Came x (λ y. FreeRegions y rs)
    regions_came x end_of_regions f s h = absurd h
    regions_came x (region b rs) f s (inl h) = out_of x b rs f.0 s.0 (sym (blocks_bind x to b) ∙ h.0) (blocks_came x b f.0 s.0 h.1)
    regions_came x (region b rs) f s (inr h) = came x (λ y. FreeRegions y rs) (λ y. FreeRegions y (region b rs)) (λ y a. inr a) (regions_came x rs f.1 s.1 h)

    blocks_came : (x : ℕ) (bs : Blocks) → UsesForBlocks r w bs → UsesForBlocks w u bs → FreeBlocks x (blocks_uses to bs) → Came x (λ y. FreeBlocks y bs)
    blocks_came x end_of_blocks f s h = absurd h
    blocks_came x (block l args ops more) f s (inl h) = came x (λ y. FreeOps y ops) (λ y. FreeBlocks y (block l args ops more)) (λ y a. inl a) (ops_came x ops f.1 s.1 h)
    blocks_came x (block l args ops more) f s (inr h) = came x (λ y. FreeBlocks y more) (λ y. FreeBlocks y (block l args ops more)) (λ y a. inr a) (blocks_came x more f.2 s.2 h)

  op_came : (x : ℕ) (k : Kind) (rs : Values) (os ls : List ℕ) (rr : Regions) → UsesForRegions r w rr → UsesForRegions w u rr → FreeOp x (op_uses to (op k rs os rr ls)) → Came x (λ y. FreeOp y (op k rs os rr ls))
  op_came x k rs os ls rr f s (inl h) = came x (λ y. has y os ≡ true) (λ y. FreeOp y (op k rs os rr ls)) (λ y a. inl a) (operand_came x os h)
  op_came x k rs os ls rr f s (inr h) = came x (λ y. FreeRegions y rr) (λ y. FreeOp y (op k rs os rr ls)) (λ y a. inr a) (regions_came x rr f s h)

  -- Paths

  abbrev CameOp : ℕ → Op → Type 0
  CameOp x o = Came x (λ y. FreeOp y o)

  ops_near : (x : ℕ) (ops : Ops) → UsesForOps r w ops → UsesForOps w u ops → Near x (CameOp x) ops (ops_uses to ops)
  ops_near x end_of_ops f s = both_end
  ops_near x (more_ops (op k rs os rr ls) rest) f s =
      by_test (ends (op k rs os rr ls)) (λ e. both refl refl (λ g. clash e g) (op_came x k rs os ls rr f.0.1 s.0.1) (ops_near x rest f.1 s.1))
      (λ e. by_test (has x (numbers rs)) (λ g. binds_it e g (op_came x k rs os ls rr f.0.1 s.0.1)) (λ g. both refl refl (λ z. g) (op_came x k rs os ls rr f.0.1 s.0.1) (ops_near x rest f.1 s.1)))

  abbrev block_with : ℕ → Values → Ops → PlainBlock
  block_with l args ops = record { label = l; args = args; ops = ops }

  first_started : (x : ℕ) (bs : Blocks) → UsesForBlocks r w bs → UsesForBlocks w u bs → (c : PlainBlock) → first_block (blocks_uses to bs) ≡ Some c → has x (numbers c.args) ≡ false → Started x (CameOp x) (first_block bs) c
  first_started x end_of_blocks f s c e = absurd (none-some c e)
  first_started x (block l args ops more) f s c e =
      subst (λ (y : PlainBlock). has x (numbers y.args) ≡ false → Started x (CameOp x) (Some (block_with l args ops)) y) (some_same (block_with l args (ops_uses to ops)) c e)
      (λ g. record { at = block_with l args ops; is = refl; starts = starts_near g (ops_near x ops f.1 s.1) })

  each_started : (x : ℕ) (bs : Blocks) → UsesForBlocks r w bs → UsesForBlocks w u bs → (t : ℕ) (c : PlainBlock) → block_of t (blocks_uses to bs) ≡ Some c → has x (numbers c.args) ≡ false → Started x (CameOp x) (block_of t bs) c
  each_started x end_of_blocks f s t c e = absurd (none-some c e)
  each_started x (block l args ops more) f s t c e = go (l == t) e (each_started x more f.2 s.2 t c)
    where
      go : (y : Bool) → (if y then Some (block_with l args (ops_uses to ops)) else block_of t (blocks_uses to more)) ≡ Some c
          → (block_of t (blocks_uses to more) ≡ Some c → has x (numbers c.args) ≡ false → Started x (CameOp x) (block_of t more) c) → has x (numbers c.args) ≡ false
          → Started x (CameOp x) (if y then Some (block_with l args ops) else block_of t more) c
      go true k later =
          subst (λ (z : PlainBlock). has x (numbers z.args) ≡ false → Started x (CameOp x) (Some (block_with l args ops)) z) (some_same (block_with l args (ops_uses to ops)) c k)
          (λ g. record { at = block_with l args ops; is = refl; starts = starts_near g (ops_near x ops f.1 s.1) })
      go false k later = later k

  alike : (x : ℕ) (bs : Blocks) → UsesForBlocks r w bs → UsesForBlocks w u bs → Alike bs (blocks_uses to bs) x (CameOp x)
  alike x bs f s = record { first = first_started x bs f s; each = each_started x bs f s }

  -- a place that is reached without u uses neither r nor w freely, where u is the region's
  none_came : (was : ℕ → Type 0) (b : Blocks) (x : ℕ) → Region was b → binds x b ≡ true → NoneReached b x (CameOp x)
  none_came was b x g own l bound o rest path (inl h) = reached_without b was x l bound o rest g.defined own path h
  none_came was b x g own l bound o rest path (inr h) = elim h.1 [ inl a ↦ by_r a | inr a ↦ by_w a ]
    where
      own_u : binds u b ≡ true
      own_u = ap (λ y. binds y b) (sym h.0) ∙ own

      path_u : Reach b u l bound (more_ops o rest)
      path_u = subst (λ y. Reach b y l bound (more_ops o rest)) h.0 path

      outside : was w → ⊥
      outside a = clash own_u (none_bound u b (g.out_u (g.wu a)))

      by_w : FreeOp w o → ⊥
      by_w a = by_test (binds w b)
          (λ e. reached_without b was w l bound o rest g.defined e (reach_through w u was g.defined g.second own_u path_u).0 a)
          (λ e. outside (free_blocks b was w b e g.defined (reach_free w path_u (inl a))))

      by_r : FreeOp r o → ⊥
      by_r a = by_test (binds r b)
          (λ e. by_test (binds w b)
          (λ f. reached_without b was r l bound o rest g.defined e (reach_through r w was g.defined g.first f (reach_through w u was g.defined g.second own_u path_u).0).0 a)
          (λ f. outside (free_blocks b was w b f g.defined (blocks_use r w b g.first e))))
          (λ e. outside (g.rw (free_blocks b was r b e g.defined (reach_free r path_u (inl a)))))

  -- The rule in the new tree

  abbrev Any : ℕ → Type 0
  Any x = Unit {0}

  settled_in : (was outer : ℕ → Type 0) (b : Blocks) → Region was b → ((x : ℕ) → binds x (blocks_uses to b) ≡ false → FreeBlocks x (blocks_uses to b) → outer x) → Settled Any (blocks_uses to b) outer
  settled_in was outer b g covers = record {
    used = λ x l bound p ps old free inside. to_either (binds x (blocks_uses to b)) (Reach (blocks_uses to b) x l bound (more_ops p ps) → ⊥) (outer x)
        (λ e path. unused p (none_came was b x g (sym (blocks_bind x to b) ∙ e)) (followed (alike x b g.first g.second) path) free)
        (λ e. covers x e inside);
  }

  mutual
    sub_ops : (was outer : ℕ → Type 0) (b : Blocks) (l : ℕ) (before bound : List ℕ) (ops : Ops) → Region was b → Settled Any (blocks_uses to b) outer → Left b ops → DefinedOps b was l before ops → Within (blocks_uses to b) (ops_uses to ops)
        → DefinedOps (blocks_uses to b) outer l bound (ops_uses to ops)
    sub_ops was outer b l before bound end_of_ops g s f d w2 = tt
    sub_ops was outer b l before bound (more_ops (op k rs os rr ls) rest) g s f d w2 = (
      (
        all_of (DefinedAt (blocks_uses to b) outer l bound (ops_uses to (more_ops (op k rs os rr ls) rest))) (map to os)
            (λ x h. s.used x l bound (op_uses to (op k rs os rr ls)) (ops_uses to rest) tt (inl h) (w2.free x (inl (inl h)))),
        sub_regions (DefinedAt b was l before (more_ops (op k rs os rr ls) rest)) (DefinedAt (blocks_uses to b) outer l bound (ops_uses to (more_ops (op k rs os rr ls) rest))) rr
            (inner_part b k rs os ls rr rest f) (inner_lead was b l before k rs os ls rr rest g f) d.0.1
            (λ x h. s.used x l bound (op_uses to (op k rs os rr ls)) (ops_uses to rest) tt (inr h) (w2.free x (inl (inr h)))),
      ),
      sub_ops was outer b l (numbers rs ++ before) (numbers rs ++ bound) rest g s (left_on b k rs os ls rr rest f) d.1 (behind w2),
    )

    sub_regions : (was outer : ℕ → Type 0) (rs : Regions) → Part rs → Lead was rs → DefinedRegions was rs → ((x : ℕ) → FreeRegions x (regions_uses to rs) → outer x) → DefinedRegions outer (regions_uses to rs)
    sub_regions was outer end_of_regions p lead d covers = tt
    sub_regions was outer (region b rs) p lead d covers =
        let g = first_region was b rs d.0 p lead in (
          sub_blocks was outer b b g (settled_in was outer b g (λ x e h. covers x (inl (e, h)))) (all_blocks was b g) d.0 (λ x h. h) (λ x h. h),
          sub_regions was outer rs (later_part b rs p) (later_lead was b rs lead) d.1 (λ x h. covers x (inr h)),
        )

    sub_blocks : (was outer : ℕ → Type 0) (b cs : Blocks) → Region was b → Settled Any (blocks_uses to b) outer → LeftBlocks b cs → DefinedBlocks b was cs → ((x : ℕ) → FreeBlocks x (blocks_uses to cs) → FreeBlocks x (blocks_uses to b))
        → ((x : ℕ) → binds x (blocks_uses to cs) ≡ true → binds x (blocks_uses to b) ≡ true) → DefinedBlocks (blocks_uses to b) outer (blocks_uses to cs)
    sub_blocks was outer b end_of_blocks g s f d free own = tt
    sub_blocks was outer b (block l args ops more) g s f d free own = (
      sub_ops was outer b l (numbers args) (numbers args) ops g s (block_ops b l args ops more f) d.0
          (record { free = λ x h. free x (inl h); binds = λ x e. own x (or_right (has x (numbers args)) _ (or_left (binds_in_ops x (ops_uses to ops)) _ e)) }),
      sub_blocks was outer b more g s (blocks_on b l args ops more f) d.1 (λ x h. free x (inr h)) (λ x e. own x (or_right (has x (numbers args)) _ (or_right (binds_in_ops x (ops_uses to ops)) _ e))),
    )

  pub function_uses : (k : Kind) (rs : Values) (os ls : List ℕ) (rr : Regions) → Part rr → DefinedFunction (op k rs os rr ls) → DefinedFunction (op_uses to (op k rs os rr ls))
  function_uses k rs os ls rr p d =
      let lead : Lead (λ x. ⊥) rr = record { rw = λ x. x; wu = λ x. x; out_w = λ x. absurd x; out_u = λ x. absurd x } in (
        all_of (λ x. ⊥) (map to os) (λ x h. let y = was_of to os x h in has_of (λ z. ⊥) y.number os d.0 y.among),
        sub_regions (λ x. ⊥) (λ x. ⊥) rr p lead d.1 (λ x h. free_in x (λ y. ⊥) rr p lead d.1 h),
      )
