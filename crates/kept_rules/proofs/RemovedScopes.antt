-- Rule `Defined` is kept where operations are left out whose results aren't used.
use Rattle.std.proofs.Common.{◌≡◌, ℕ, ◌==◌, Bool, true, false, List, ◌++◌, Some, refl, sym, ap, ◌∙◌, subst, inl, inr}
use Rattle.std.specs.Prelude.{◌||◌, if◌then◌else◌}
use Rattle.std.proofs.lemmas.Option.{none-some}
use Rattle.plain_tree.specs.Ops.{Kind, Op, op, Ops, end_of_ops, more_ops, Regions, end_of_regions, region, Blocks, end_of_blocks, block, PlainBlock, Values}
use Rattle.rule_model.specs.Words.{binds, binds_in_ops, block_of, first_block, has, numbers}
use Rattle.rule_model.specs.Paths.{ends}
use Rattle.rule_model.specs.Scopes.{DefinedAt, DefinedBlocks, DefinedFunction, DefinedOps, DefinedRegions, FreeBlocks, FreeOp, FreeOps, FreeRegions}
use Rattle.rule_model.proofs.Numbers.{all_of, some_same}
use Rattle.conversion_model.specs.Uses.{blocks_without, op_without, ops_without, regions_without}
use Rattle.kept_rules.specs.Casts.{MayLeave, MayLeaveBlocks, MayLeaveOps, MayLeaveRegions}
use Rattle.line_rules.proofs.Words.{by_test, clash, or_left, or_right}
use Rattle.line_rules.proofs.Follows.{Alike, binds_it, both, both_end, Near, passed, Started, starts_near}
use Rattle.line_rules.proofs.LinedScopes.{behind, free_regions, Settled, settled, Within}

-- by a test
pub if_either : {A : Type 0} (P : A → Type 0) (b : Bool) (x y : A) → (b ≡ true → P x) → (b ≡ false → P y) → P (if b then x else y)
if_either P true x y f g = f refl
if_either P false x y f g = g refl

module _ (test : Op → Bool) (Used : ℕ → Type 0) where
  abbrev cut_ops : Ops → Ops
  cut_ops os = ops_without test os

  mutual
    pub ops_bind : (v : ℕ) (os : Ops) → Used v → MayLeaveOps test Used os → binds_in_ops v (cut_ops os) ≡ binds_in_ops v os
    ops_bind v end_of_ops u m = refl
    ops_bind v (more_ops (op k rs os r ls) rest) u m =
        if_either (λ x. binds_in_ops v x ≡ (has v (numbers rs) || binds_in_ops v rest)) (test (op k rs os r ls)) (cut_ops rest) (more_ops (op_without test (op k rs os r ls)) (cut_ops rest))
        (λ e. ops_bind v rest u m.2 ∙ ap (λ b. b || binds_in_ops v rest) (sym ((m.0 e).unused v u)))
        (λ e. ap (λ b. has v (numbers rs) || b) (ops_bind v rest u m.2))

    pub blocks_bind : (v : ℕ) (bs : Blocks) → Used v → MayLeaveBlocks test Used bs → binds v (blocks_without test bs) ≡ binds v bs
    blocks_bind v end_of_blocks u m = refl
    blocks_bind v (block l args ops more) u m =
        ap (λ b. has v (numbers args) || (b || binds v (blocks_without test more))) (ops_bind v ops u m.0) ∙ ap (λ b. has v (numbers args) || (binds_in_ops v ops || b)) (blocks_bind v more u m.1)

  mutual
    pub ops_free : (v : ℕ) (os : Ops) → Used v → MayLeaveOps test Used os → FreeOps v (cut_ops os) → FreeOps v os
    ops_free v end_of_ops u m h = h
    ops_free v (more_ops (op k rs os r ls) rest) u m h =
        if_either (λ x. FreeOps v x → FreeOps v (more_ops (op k rs os r ls) rest)) (test (op k rs os r ls)) (cut_ops rest) (more_ops (op_without test (op k rs os r ls)) (cut_ops rest))
        (λ e f. inr (ops_free v rest u m.2 f))
        (λ e f. elim f [ inl a ↦ inl (elim a [ inl b ↦ inl b | inr b ↦ inr (regions_free v r u m.1.1 b) ]) | inr a ↦ inr (ops_free v rest u m.2 a) ]) h

    pub regions_free : (v : ℕ) (rs : Regions) → Used v → MayLeaveRegions test Used rs → FreeRegions v (regions_without test rs) → FreeRegions v rs
    regions_free v end_of_regions u m h = h
    regions_free v (region b r) u m (inl h) = inl (sym (blocks_bind v b u m.0) ∙ h.0, blocks_free v b u m.0 h.1)
    regions_free v (region b r) u m (inr h) = inr (regions_free v r u m.1 h)

    pub blocks_free : (v : ℕ) (bs : Blocks) → Used v → MayLeaveBlocks test Used bs → FreeBlocks v (blocks_without test bs) → FreeBlocks v bs
    blocks_free v end_of_blocks u m h = h
    blocks_free v (block l args ops more) u m (inl h) = inl (ops_free v ops u m.0 h)
    blocks_free v (block l args ops more) u m (inr h) = inr (blocks_free v more u m.1 h)

  op_free : (v : ℕ) (k : Kind) (rs : Values) (os ls : List ℕ) (r : Regions) → Used v → MayLeaveRegions test Used r → FreeOp v (op_without test (op k rs os r ls)) → FreeOp v (op k rs os r ls)
  op_free v k rs os ls r u m (inl h) = inl h
  op_free v k rs os ls r u m (inr h) = inr (regions_free v r u m h)

  ops_near : (v : ℕ) (os : Ops) → Used v → MayLeaveOps test Used os → Near v (FreeOp v) os (cut_ops os)
  ops_near v end_of_ops u m = both_end
  ops_near v (more_ops (op k rs os r ls) rest) u m =
      if_either (λ x. Near v (FreeOp v) (more_ops (op k rs os r ls) rest) x) (test (op k rs os r ls)) (cut_ops rest) (more_ops (op_without test (op k rs os r ls)) (cut_ops rest))
      (λ e. passed (m.0 e).on ((m.0 e).unused v u) (ops_near v rest u m.2))
      (λ e. by_test (ends (op k rs os r ls)) (λ f. both refl refl (λ g. clash f g) (op_free v k rs os ls r u m.1.1) (ops_near v rest u m.2))
      (λ f. by_test (has v (numbers rs)) (λ g. binds_it f g (op_free v k rs os ls r u m.1.1)) (λ g. both refl refl (λ z. g) (op_free v k rs os ls r u m.1.1) (ops_near v rest u m.2))))

  abbrev block_with : ℕ → Values → Ops → PlainBlock
  block_with l args ops = record { label = l; args = args; ops = ops }

  first_started : (v : ℕ) (bs : Blocks) → Used v → MayLeaveBlocks test Used bs → (c : PlainBlock) → first_block (blocks_without test bs) ≡ Some c → has v (numbers c.args) ≡ false → Started v (FreeOp v) (first_block bs) c
  first_started v end_of_blocks u m c e = absurd (none-some c e)
  first_started v (block l args ops more) u m c e =
      subst (λ (y : PlainBlock). has v (numbers y.args) ≡ false → Started v (FreeOp v) (Some (block_with l args ops)) y) (some_same (block_with l args (cut_ops ops)) c e)
      (λ g. record { at = block_with l args ops; is = refl; starts = starts_near g (ops_near v ops u m.0) })

  each_started : (v : ℕ) (bs : Blocks) → Used v → MayLeaveBlocks test Used bs → (t : ℕ) (c : PlainBlock) → block_of t (blocks_without test bs) ≡ Some c → has v (numbers c.args) ≡ false → Started v (FreeOp v) (block_of t bs) c
  each_started v end_of_blocks u m t c e = absurd (none-some c e)
  each_started v (block l args ops more) u m t c e = go (l == t) e (each_started v more u m.1 t c)
    where
      go : (y : Bool) → (if y then Some (block_with l args (cut_ops ops)) else block_of t (blocks_without test more)) ≡ Some c
          → (block_of t (blocks_without test more) ≡ Some c → has v (numbers c.args) ≡ false → Started v (FreeOp v) (block_of t more) c) → has v (numbers c.args) ≡ false
          → Started v (FreeOp v) (if y then Some (block_with l args ops) else block_of t more) c
      go true k later =
          subst (λ (z : PlainBlock). has v (numbers z.args) ≡ false → Started v (FreeOp v) (Some (block_with l args ops)) z) (some_same (block_with l args (cut_ops ops)) c k)
          (λ g. record { at = block_with l args ops; is = refl; starts = starts_near g (ops_near v ops u m.0) })
      go false k later = later k

  alike : (v : ℕ) (bs : Blocks) → Used v → MayLeaveBlocks test Used bs → Alike bs (blocks_without test bs) v (FreeOp v)
  alike v bs u m = record { first = first_started v bs u m; each = each_started v bs u m }

  mutual
    cut_defined : (bs : Blocks) (was : ℕ → Type 0) (cs : Blocks) (outer : ℕ → Type 0) (l : ℕ) (before bound : List ℕ) (os : Ops) → Settled Used cs outer → MayLeaveOps test Used os → DefinedOps bs was l before os → Within cs (cut_ops os) → DefinedOps cs outer l bound (cut_ops os)
    cut_defined bs was cs outer l before bound end_of_ops s m d w = tt
    cut_defined bs was cs outer l before bound (more_ops (op k rs os r ls) rest) s m d w =
        if_either (λ x. Within cs x → DefinedOps cs outer l bound x) (test (op k rs os r ls)) (cut_ops rest) (more_ops (op_without test (op k rs os r ls)) (cut_ops rest))
        (λ e v. cut_defined bs was cs outer l (numbers rs ++ before) bound rest s m.2 d.1 v)
        (λ e v. (
          (
            all_of (DefinedAt cs outer l bound (more_ops (op_without test (op k rs os r ls)) (cut_ops rest))) os
                (λ x h. s.used x l bound (op_without test (op k rs os r ls)) (cut_ops rest) (m.1.0 x h) (inl h) (v.free x (inl (inl h)))),
            cut_regions (DefinedAt bs was l before (more_ops (op k rs os r ls) rest)) (DefinedAt cs outer l bound (more_ops (op_without test (op k rs os r ls)) (cut_ops rest))) r m.1.1 d.0.1
                (λ x u h. s.used x l bound (op_without test (op k rs os r ls)) (cut_ops rest) u (inr h) (v.free x (inl (inr h)))),
          ),
          cut_defined bs was cs outer l (numbers rs ++ before) (numbers rs ++ bound) rest s m.2 d.1 (behind v),
        )) w

    cut_regions : (was outer : ℕ → Type 0) (rs : Regions) → MayLeaveRegions test Used rs → DefinedRegions was rs → ((x : ℕ) → Used x → FreeRegions x (regions_without test rs) → outer x) → DefinedRegions outer (regions_without test rs)
    cut_regions was outer end_of_regions m d covers = tt
    cut_regions was outer (region b r) m d covers = (
      cut_blocks b was (blocks_without test b) outer b
          (settled Used b (blocks_without test b) was outer d.0 (λ x u. alike x b u m.0) (λ x u e. sym (blocks_bind x b u m.0) ∙ e) (λ x u none free. covers x u (inl (none, free))))
          m.0 d.0 (λ x f. f) (λ x e. e),
      cut_regions was outer r m.1 d.1 (λ x u h. covers x u (inr h)),
    )

    cut_blocks : (bs : Blocks) (was : ℕ → Type 0) (cs : Blocks) (outer : ℕ → Type 0) (xs : Blocks) → Settled Used cs outer → MayLeaveBlocks test Used xs → DefinedBlocks bs was xs → ((x : ℕ) → FreeBlocks x (blocks_without test xs) → FreeBlocks x cs)
        → ((x : ℕ) → binds x (blocks_without test xs) ≡ true → binds x cs ≡ true) → DefinedBlocks cs outer (blocks_without test xs)
    cut_blocks bs was cs outer end_of_blocks s m d free own = tt
    cut_blocks bs was cs outer (block l args ops more) s m d free own = (
      cut_defined bs was cs outer l (numbers args) (numbers args) ops s m.0 d.0
          (record { free = λ x h. free x (inl h); binds = λ x e. own x (or_right (has x (numbers args)) _ (or_left (binds_in_ops x (cut_ops ops)) _ e)) }),
      cut_blocks bs was cs outer more s m.1 d.1 (λ x h. free x (inr h)) (λ x e. own x (or_right (has x (numbers args)) _ (or_right (binds_in_ops x (cut_ops ops)) _ e))),
    )

  pub function_cut : (k : Kind) (rs : Values) (os ls : List ℕ) (r : Regions) → MayLeave test Used (op k rs os r ls) → DefinedFunction (op k rs os r ls) → DefinedFunction (op_without test (op k rs os r ls))
  function_cut k rs os ls r m d = (d.0, cut_regions (λ x. ⊥) (λ x. ⊥) r m.1 d.1 (λ x u h. free_regions (λ y. ⊥) x r d.1 (regions_free x r u m.1 h)))
