-- Rule `Defined` is kept where the arguments of blocks get their converted types.
use Rattle.std.proofs.Common.{◌≡◌, ℕ, ◌+◌, ◌==◌, Bool, true, false, List, [], ◌∷◌, ◌++◌, Option, Some, None, refl, sym, ap, ◌∙◌, subst, inl, inr, true≢false}
use Rattle.std.specs.Prelude.{◌||◌, ◌⊎◌, if◌then◌else◌}
use Rattle.std.proofs.lemmas.Option.{none-some}
use Rattle.std.proofs.lemmas.Bool.{eqb-true}
use Rattle.plain_tree.specs.Types.{PlainType}
use Rattle.plain_tree.specs.Ops.{Kind, Op, op, Ops, end_of_ops, more_ops, Regions, end_of_regions, region, Blocks, end_of_blocks, block, PlainBlock, Values}
use Rattle.rule_model.specs.Words.{binds, binds_in_ops, block_of, first_block, has, numbers}
use Rattle.rule_model.specs.Paths.{ends}
use Rattle.rule_model.specs.Scopes.{DefinedAt, DefinedBlocks, DefinedFunction, DefinedOps, DefinedRegions, FreeBlocks, FreeOp, FreeOps, FreeRegions}
use Rattle.rule_model.proofs.Numbers.{all_of, has_of, itself, some_same}
use Rattle.conversion_model.specs.Types.{new_type}
use Rattle.conversion_model.specs.Conversion.{blocks_blocks, cast_back, cast_op, casts_back, new_argument, new_arguments, op_blocks, ops_blocks, regions_blocks}
use Rattle.conversion_model.specs.Fresh.{EachBlock, EachOp, EachOps, EachRegion}
use Rattle.line_rules.proofs.Words.{by_test, clash, or_cases, or_first, or_left, or_right, or_second, same_test}
use Rattle.line_rules.proofs.Follows.{Alike, binds_it, both, both_end, makes, Near, Started, starts_near, starts_waiting, Waits, waits_for, waits_on}
use Rattle.line_rules.proofs.LinedScopes.{bare_defined, behind, Bounds, bounds_on, each_all, free_regions as outer_regions, made_here, Settled, settled, Within}

module _ (bits : ℕ) (arg : ℕ → ℕ → ℕ) (Old OldLabel : ℕ → Type 0) (fresh : (x l k : ℕ) → Old x → x ≡ arg l k → ⊥) where
  -- a cast back uses no old number
  cast_free : (u l k : ℕ) (a : ℕ × PlainType) → Old u → FreeOp u (cast_op (arg l k) a) → ⊥
  cast_free u l k a old (inl h) = elim (or_cases (arg l k == u) false h) [ inl e ↦ fresh u l k old (sym (eqb-true (arg l k) u e)) | inr e ↦ true≢false (sym e) ]
  cast_free u l k a old (inr h) = h

  pub args_new : (u l k : ℕ) (args : Values) → Old u → has u (numbers (new_arguments bits (arg l) k args)) ≡ true → has u (numbers args) ≡ true
  args_new u l k [] old h = h
  args_new u l k (a ∷ args) old h = go (new_type bits a.1) h (args_new u l (k + 1) args old)
    where
      go : (c : Option PlainType) → has u (numbers (new_argument (arg l k) a c ∷ new_arguments bits (arg l) (k + 1) args)) ≡ true → (has u (numbers (new_arguments bits (arg l) (k + 1) args)) ≡ true → has u (numbers args) ≡ true)
          → has u (numbers (a ∷ args)) ≡ true
      go None f rest = elim (or_cases (a.0 == u) _ f) [ inl e ↦ or_left (a.0 == u) _ e | inr e ↦ or_right (a.0 == u) _ (rest e) ]
      go (Some t) f rest = elim (or_cases (arg l k == u) _ f) [ inl e ↦ absurd (fresh u l k old (sym (eqb-true (arg l k) u e))) | inr e ↦ or_right (a.0 == u) _ (rest e) ]

  front_near : (u l k : ℕ) (args : Values) (Use : Op → Type 0) (os qs : Ops) → Old u → has u (numbers args) ≡ false → Near u Use os qs → Near u Use os (casts_back bits (arg l) k args qs)
  front_near u l k [] Use os qs old none n = n
  front_near u l k (a ∷ args) Use os qs old none n = go (new_type bits a.1) (front_near u l (k + 1) args Use os qs old (or_second (a.0 == u) _ none) n)
    where
      go : (c : Option PlainType) → Near u Use os (casts_back bits (arg l) (k + 1) args qs) → Near u Use os (cast_back (arg l k) a c (casts_back bits (arg l) (k + 1) args qs))
      go None r = r
      go (Some t) r = makes refl (λ h. absurd (cast_free u l k a old h)) r

  front_waits : (u l k : ℕ) (args : Values) (qs : Ops) → Old u → has u (numbers args) ≡ true → has u (numbers (new_arguments bits (arg l) k args)) ≡ false → Waits u (casts_back bits (arg l) k args qs)
  front_waits u l k [] qs old h none = absurd (true≢false (sym h))
  front_waits u l k (a ∷ args) qs old h none = go (new_type bits a.1) h none (front_waits u l (k + 1) args qs old)
    where
      go : (c : Option PlainType) → ((a.0 == u) || has u (numbers args)) ≡ true → has u (numbers (new_argument (arg l k) a c ∷ new_arguments bits (arg l) (k + 1) args)) ≡ false
          → (has u (numbers args) ≡ true → has u (numbers (new_arguments bits (arg l) (k + 1) args)) ≡ false → Waits u (casts_back bits (arg l) (k + 1) args qs)) → Waits u (cast_back (arg l k) a c (casts_back bits (arg l) (k + 1) args qs))
      go None f g rest = elim (or_cases (a.0 == u) _ f) [ inl e ↦ clash e (or_first (a.0 == u) _ g) | inr e ↦ rest e (or_second (a.0 == u) _ g) ]
      go (Some t) f g rest =
          by_test (a.0 == u) (λ e. waits_for refl (cast_free u l k a old) (or_left (a.0 == u) false e))
          (λ e. waits_on refl (cast_free u l k a old) (elim (or_cases (a.0 == u) _ f) [ inl y ↦ clash y e | inr y ↦ rest y (or_second (arg l k == u) _ g) ]))

  -- what the front of a block defines

  front_binds : (u l k : ℕ) (args : Values) (qs : Ops) → binds_in_ops u (casts_back bits (arg l) k args qs) ≡ true → (has u (numbers args) ≡ true) ⊎ (binds_in_ops u qs ≡ true)
  front_binds u l k [] qs h = inr h
  front_binds u l k (a ∷ args) qs h = go (new_type bits a.1) h (front_binds u l (k + 1) args qs)
    where
      later : (has u (numbers args) ≡ true) ⊎ (binds_in_ops u qs ≡ true) → (has u (numbers (a ∷ args)) ≡ true) ⊎ (binds_in_ops u qs ≡ true)
      later (inl e) = inl (or_right (a.0 == u) _ e)
      later (inr e) = inr e

      go : (c : Option PlainType) → binds_in_ops u (cast_back (arg l k) a c (casts_back bits (arg l) (k + 1) args qs)) ≡ true
          → (binds_in_ops u (casts_back bits (arg l) (k + 1) args qs) ≡ true → (has u (numbers args) ≡ true) ⊎ (binds_in_ops u qs ≡ true)) → (has u (numbers (a ∷ args)) ≡ true) ⊎ (binds_in_ops u qs ≡ true)
      go None f rest = later (rest f)
      go (Some t) f rest = elim (or_cases (has u (a.0 ∷ [])) _ f) [
        | inl e ↦ elim (or_cases (a.0 == u) false e) [ inl y ↦ inl (or_left (a.0 == u) _ y) | inr y ↦ absurd (true≢false (sym y)) ]
        | inr e ↦ later (rest e)
      ]

  front_behind : (u l k : ℕ) (args : Values) (qs : Ops) → binds_in_ops u qs ≡ true → binds_in_ops u (casts_back bits (arg l) k args qs) ≡ true
  front_behind u l k [] qs h = h
  front_behind u l k (a ∷ args) qs h = go (new_type bits a.1) (front_behind u l (k + 1) args qs h)
    where
      go : (c : Option PlainType) → binds_in_ops u (casts_back bits (arg l) (k + 1) args qs) ≡ true → binds_in_ops u (cast_back (arg l k) a c (casts_back bits (arg l) (k + 1) args qs)) ≡ true
      go None e = e
      go (Some t) e = or_right (has u (a.0 ∷ [])) _ e

  front_args : (u l k : ℕ) (args : Values) (qs : Ops) → has u (numbers args) ≡ true → (has u (numbers (new_arguments bits (arg l) k args)) ≡ true) ⊎ (binds_in_ops u (casts_back bits (arg l) k args qs) ≡ true)
  front_args u l k [] qs h = absurd (true≢false (sym h))
  front_args u l k (a ∷ args) qs h = go (new_type bits a.1) h (front_args u l (k + 1) args qs)
    where
      go : (c : Option PlainType) → ((a.0 == u) || has u (numbers args)) ≡ true
          → (has u (numbers args) ≡ true → (has u (numbers (new_arguments bits (arg l) (k + 1) args)) ≡ true) ⊎ (binds_in_ops u (casts_back bits (arg l) (k + 1) args qs) ≡ true))
          → (has u (numbers (new_argument (arg l k) a c ∷ new_arguments bits (arg l) (k + 1) args)) ≡ true) ⊎ (binds_in_ops u (cast_back (arg l k) a c (casts_back bits (arg l) (k + 1) args qs)) ≡ true)
      go None f rest = elim (or_cases (a.0 == u) _ f) [ inl e ↦ inl (or_left (a.0 == u) _ e) | inr e ↦ elim (rest e) [ inl y ↦ inl (or_right (a.0 == u) _ y) | inr y ↦ inr y ] ]
      go (Some t) f rest = elim (or_cases (a.0 == u) _ f) [
        | inl e ↦ inr (or_left (has u (a.0 ∷ [])) _ (or_left (a.0 == u) false e))
        | inr e ↦ elim (rest e) [ inl y ↦ inl (or_right (arg l k == u) _ y) | inr y ↦ inr (or_right (has u (a.0 ∷ [])) _ y) ]
      ]

  ops_bind : (u : ℕ) (os : Ops) → binds_in_ops u (ops_blocks bits arg os) ≡ binds_in_ops u os
  ops_bind u end_of_ops = refl
  ops_bind u (more_ops (op k rs os r ls) rest) = ap (λ b. has u (numbers rs) || b) (ops_bind u rest)

  abbrev blocks_at : Bool → Blocks → Blocks
  blocks_at first bs = blocks_blocks bits arg first bs

  pub blocks_bind : (u : ℕ) (first : Bool) (bs : Blocks) → Old u → binds u (blocks_at first bs) ≡ binds u bs
  blocks_bind u first end_of_blocks old = refl
  blocks_bind u true (block l args ops more) old =
      ap (λ b. has u (numbers args) || (b || binds u (blocks_at false more))) (ops_bind u ops) ∙ ap (λ b. has u (numbers args) || (binds_in_ops u ops || b)) (blocks_bind u false more old)
  blocks_bind u false (block l args ops more) old =
      same_test (binds u (blocks_at false (block l args ops more))) (binds u (block l args ops more))
      (λ h. elim (or_cases (has u (numbers (new_arguments bits (arg l) 0 args))) _ h) [
        | inl e ↦ or_left (has u (numbers args)) _ (args_new u l 0 args old e)
        | inr e ↦ elim (or_cases (binds_in_ops u (casts_back bits (arg l) 0 args (ops_blocks bits arg ops))) _ e) [
          | inl y ↦ elim (front_binds u l 0 args (ops_blocks bits arg ops) y) [
            | inl z ↦ or_left (has u (numbers args)) _ z
            | inr z ↦ or_right (has u (numbers args)) _ (or_left (binds_in_ops u ops) _ (sym (ops_bind u ops) ∙ z))
          ]
          | inr y ↦ or_right (has u (numbers args)) _ (or_right (binds_in_ops u ops) _ (sym (blocks_bind u false more old) ∙ y))
        ]
      ])
      (λ h. elim (or_cases (has u (numbers args)) _ h) [
        | inl e ↦ elim (front_args u l 0 args (ops_blocks bits arg ops) e) [
          | inl y ↦ or_left (has u (numbers (new_arguments bits (arg l) 0 args))) _ y
          | inr y ↦ or_right (has u (numbers (new_arguments bits (arg l) 0 args))) _ (or_left (binds_in_ops u (casts_back bits (arg l) 0 args (ops_blocks bits arg ops))) _ y)
        ]
        | inr e ↦ or_right (has u (numbers (new_arguments bits (arg l) 0 args))) _ (elim (or_cases (binds_in_ops u ops) _ e) [
          | inl y ↦ or_left (binds_in_ops u (casts_back bits (arg l) 0 args (ops_blocks bits arg ops))) _ (front_behind u l 0 args (ops_blocks bits arg ops) (ops_bind u ops ∙ y))
          | inr y ↦ or_right (binds_in_ops u (casts_back bits (arg l) 0 args (ops_blocks bits arg ops))) _ (blocks_bind u false more old ∙ y)
        ])
      ])

  -- free uses are those that there were

  front_free : (u l k : ℕ) (args : Values) (qs : Ops) → Old u → FreeOps u (casts_back bits (arg l) k args qs) → FreeOps u qs
  front_free u l k [] qs old h = h
  front_free u l k (a ∷ args) qs old h = go (new_type bits a.1) h (front_free u l (k + 1) args qs old)
    where
      go : (c : Option PlainType) → FreeOps u (cast_back (arg l k) a c (casts_back bits (arg l) (k + 1) args qs)) → (FreeOps u (casts_back bits (arg l) (k + 1) args qs) → FreeOps u qs) → FreeOps u qs
      go None f rest = rest f
      go (Some t) (inl f) rest = absurd (cast_free u l k a old f)
      go (Some t) (inr f) rest = rest f

  mutual
    ops_free : (u : ℕ) (os : Ops) → Old u → FreeOps u (ops_blocks bits arg os) → FreeOps u os
    ops_free u end_of_ops old h = h
    ops_free u (more_ops (op k rs os r ls) rest) old (inl (inl h)) = inl (inl h)
    ops_free u (more_ops (op k rs os r ls) rest) old (inl (inr h)) = inl (inr (regions_free u r old h))
    ops_free u (more_ops (op k rs os r ls) rest) old (inr h) = inr (ops_free u rest old h)

    pub regions_free : (u : ℕ) (rs : Regions) → Old u → FreeRegions u (regions_blocks bits arg rs) → FreeRegions u rs
    regions_free u end_of_regions old h = h
    regions_free u (region b r) old (inl h) = inl (sym (blocks_bind u true b old) ∙ h.0, blocks_free u true b old h.1)
    regions_free u (region b r) old (inr h) = inr (regions_free u r old h)

    blocks_free : (u : ℕ) (first : Bool) (bs : Blocks) → Old u → FreeBlocks u (blocks_at first bs) → FreeBlocks u bs
    blocks_free u first end_of_blocks old h = h
    blocks_free u true (block l args ops more) old (inl h) = inl (ops_free u ops old h)
    blocks_free u true (block l args ops more) old (inr h) = inr (blocks_free u false more old h)
    blocks_free u false (block l args ops more) old (inl h) = inl (ops_free u ops old (front_free u l 0 args (ops_blocks bits arg ops) old h))
    blocks_free u false (block l args ops more) old (inr h) = inr (blocks_free u false more old h)

  op_free : (u : ℕ) (k : Kind) (rs : Values) (os ls : List ℕ) (r : Regions) → Old u → FreeOp u (op_blocks bits arg (op k rs os r ls)) → FreeOp u (op k rs os r ls)
  op_free u k rs os ls r old (inl h) = inl h
  op_free u k rs os ls r old (inr h) = inr (regions_free u r old h)

  -- Paths

  ops_near : (u : ℕ) (os : Ops) → Old u → Near u (FreeOp u) os (ops_blocks bits arg os)
  ops_near u end_of_ops old = both_end
  ops_near u (more_ops (op k rs os r ls) rest) old =
      by_test (ends (op k rs os r ls)) (λ e. both refl refl (λ g. clash e g) (op_free u k rs os ls r old) (ops_near u rest old))
      (λ e. by_test (has u (numbers rs)) (λ g. binds_it e g (op_free u k rs os ls r old)) (λ g. both refl refl (λ z. g) (op_free u k rs os ls r old) (ops_near u rest old)))

  abbrev block_with : ℕ → Values → Ops → PlainBlock
  block_with l args ops = record { label = l; args = args; ops = ops }

  -- the start of a block with other arguments
  front_started : (u l : ℕ) (args : Values) (ops : Ops) → Old u → has u (numbers (new_arguments bits (arg l) 0 args)) ≡ false
      → Started u (FreeOp u) (Some (block_with l args ops)) (block_with l (new_arguments bits (arg l) 0 args) (casts_back bits (arg l) 0 args (ops_blocks bits arg ops)))
  front_started u l args ops old none = record {
    at = block_with l args ops;
    is = refl;
    starts = by_test (has u (numbers args)) (λ e. starts_waiting (front_waits u l 0 args (ops_blocks bits arg ops) old e none))
        (λ e. starts_near e (front_near u l 0 args (FreeOp u) ops (ops_blocks bits arg ops) old e (ops_near u ops old)));
  }

  same_started : (u l : ℕ) (args : Values) (ops : Ops) → Old u → has u (numbers args) ≡ false → Started u (FreeOp u) (Some (block_with l args ops)) (block_with l args (ops_blocks bits arg ops))
  same_started u l args ops old none = record { at = block_with l args ops; is = refl; starts = starts_near none (ops_near u ops old) }

  abbrev Begins : ℕ → Option PlainBlock → PlainBlock → Type 0
  Begins u o c = has u (numbers c.args) ≡ false → Started u (FreeOp u) o c

  first_started : (u : ℕ) (bs : Blocks) → Old u → (c : PlainBlock) → first_block (blocks_at true bs) ≡ Some c → Begins u (first_block bs) c
  first_started u end_of_blocks old c e = absurd (none-some c e)
  first_started u (block l args ops more) old c e = subst (Begins u (Some (block_with l args ops))) (some_same (block_with l args (ops_blocks bits arg ops)) c e) (same_started u l args ops old)

  each_started : (u : ℕ) (first : Bool) (bs : Blocks) → Old u → (t : ℕ) (c : PlainBlock) → block_of t (blocks_at first bs) ≡ Some c → Begins u (block_of t bs) c
  each_started u first end_of_blocks old t c e = absurd (none-some c e)
  each_started u true (block l args ops more) old t c e = go (l == t) e (each_started u false more old t c)
    where
      go : (y : Bool) → (if y then Some (block_with l args (ops_blocks bits arg ops)) else block_of t (blocks_at false more)) ≡ Some c → (block_of t (blocks_at false more) ≡ Some c → Begins u (block_of t more) c)
          → Begins u (if y then Some (block_with l args ops) else block_of t more) c
      go true k later = subst (Begins u (Some (block_with l args ops))) (some_same (block_with l args (ops_blocks bits arg ops)) c k) (same_started u l args ops old)
      go false k later = later k
  each_started u false (block l args ops more) old t c e = go (l == t) e (each_started u false more old t c)
    where
      go : (y : Bool) → (if y then Some (block_with l (new_arguments bits (arg l) 0 args) (casts_back bits (arg l) 0 args (ops_blocks bits arg ops))) else block_of t (blocks_at false more)) ≡ Some c
          → (block_of t (blocks_at false more) ≡ Some c → Begins u (block_of t more) c) → Begins u (if y then Some (block_with l args ops) else block_of t more) c
      go true k later =
          subst (Begins u (Some (block_with l args ops))) (some_same (block_with l (new_arguments bits (arg l) 0 args) (casts_back bits (arg l) 0 args (ops_blocks bits arg ops))) c k) (front_started u l args ops old)
      go false k later = later k

  alike : (u : ℕ) (bs : Blocks) → Old u → Alike bs (blocks_at true bs) u (FreeOp u)
  alike u bs old = record { first = first_started u bs old; each = each_started u true bs old }

  -- The rule in the new tree

  front_defined : (cs : Blocks) (outer : ℕ → Type 0) (l m k : ℕ) (bound : List ℕ) (args : Values) (qs : Ops) → ((x : ℕ) → has x (numbers (new_arguments bits (arg l) k args)) ≡ true → has x bound ≡ true) → Bounds cs bound → Within cs (casts_back bits (arg l) k args qs)
      → ((b : List ℕ) → Bounds cs b → Within cs qs → DefinedOps cs outer m b qs) → DefinedOps cs outer m bound (casts_back bits (arg l) k args qs)
  front_defined cs outer l m k bound [] qs known b w rest = rest bound b w
  front_defined cs outer l m k bound (a ∷ args) qs known b w rest =
      go (new_type bits a.1) known w (λ bound2 known2 b2 w2. front_defined cs outer l m (k + 1) bound2 args qs known2 b2 w2 rest)
    where
      go : (c : Option PlainType) → ((x : ℕ) → has x (numbers (new_argument (arg l k) a c ∷ new_arguments bits (arg l) (k + 1) args)) ≡ true → has x bound ≡ true) → Within cs (cast_back (arg l k) a c (casts_back bits (arg l) (k + 1) args qs))
          → ((bound2 : List ℕ) → ((x : ℕ) → has x (numbers (new_arguments bits (arg l) (k + 1) args)) ≡ true → has x bound2 ≡ true) → Bounds cs bound2 → Within cs (casts_back bits (arg l) (k + 1) args qs) → DefinedOps cs outer m bound2 (casts_back bits (arg l) (k + 1) args qs))
          → DefinedOps cs outer m bound (cast_back (arg l k) a c (casts_back bits (arg l) (k + 1) args qs))
      go None f v later = later bound (λ x h. f x (or_right (a.0 == x) _ h)) b v
      go (Some t) f v later = (
        bare_defined (DefinedAt cs outer m bound (more_ops (cast_op (arg l k) a) (casts_back bits (arg l) (k + 1) args qs))) (cast_op (arg l k) a) refl
            (made_here cs outer m bound (more_ops (cast_op (arg l k) a) (casts_back bits (arg l) (k + 1) args qs)) (arg l k) b (f (arg l k) (or_left (arg l k == arg l k) _ (itself (arg l k)))), tt),
        later (a.0 ∷ bound) (λ x h. or_right (a.0 == x) _ (f x (or_right (arg l k == x) _ h))) (bounds_on (cast_op (arg l k) a) bound v b) (behind v),
      )

  mutual
    block_ops : (bs : Blocks) (was : ℕ → Type 0) (cs : Blocks) (outer : ℕ → Type 0) (l : ℕ) (before bound : List ℕ) (os : Ops) → Settled Old cs outer → EachOps Old OldLabel os → DefinedOps bs was l before os → Bounds cs bound → Within cs (ops_blocks bits arg os)
        → DefinedOps cs outer l bound (ops_blocks bits arg os)
    block_ops bs was cs outer l before bound end_of_ops s each d b w = tt
    block_ops bs was cs outer l before bound (more_ops (op k rs os r ls) rest) s each d b w = (
      (
        all_of (DefinedAt cs outer l bound (ops_blocks bits arg (more_ops (op k rs os r ls) rest))) os
            (λ x h. s.used x l bound (op_blocks bits arg (op k rs os r ls)) (ops_blocks bits arg rest) (has_of Old x os (each_all Old os each.0.1) h) (inl h) (w.free x (inl (inl h)))),
        block_regions (DefinedAt bs was l before (more_ops (op k rs os r ls) rest)) (DefinedAt cs outer l bound (ops_blocks bits arg (more_ops (op k rs os r ls) rest))) r each.0.2 d.0.1
            (λ x old h. s.used x l bound (op_blocks bits arg (op k rs os r ls)) (ops_blocks bits arg rest) old (inr h) (w.free x (inl (inr h)))),
      ),
      block_ops bs was cs outer l (numbers rs ++ before) (numbers rs ++ bound) rest s each.1 d.1 (bounds_on (op_blocks bits arg (op k rs os r ls)) bound w b) (behind w),
    )

    block_regions : (was outer : ℕ → Type 0) (rs : Regions) → EachRegion Old OldLabel rs → DefinedRegions was rs → ((x : ℕ) → Old x → FreeRegions x (regions_blocks bits arg rs) → outer x) → DefinedRegions outer (regions_blocks bits arg rs)
    block_regions was outer end_of_regions each d covers = tt
    block_regions was outer (region b r) each d covers = (
      block_blocks b was (blocks_at true b) outer true b
          (settled Old b (blocks_at true b) was outer d.0 (λ x old. alike x b old) (λ x old e. sym (blocks_bind x true b old) ∙ e) (λ x old none free. covers x old (inl (none, free))))
          each.0 d.0 (λ x f. f) (λ x e. e),
      block_regions was outer r each.1 d.1 (λ x old h. covers x old (inr h)),
    )

    block_blocks : (bs : Blocks) (was : ℕ → Type 0) (cs : Blocks) (outer : ℕ → Type 0) (first : Bool) (xs : Blocks) → Settled Old cs outer → EachBlock Old OldLabel xs → DefinedBlocks bs was xs → ((x : ℕ) → FreeBlocks x (blocks_at first xs) → FreeBlocks x cs)
        → ((x : ℕ) → binds x (blocks_at first xs) ≡ true → binds x cs ≡ true) → DefinedBlocks cs outer (blocks_at first xs)
    block_blocks bs was cs outer first end_of_blocks s each d free own = tt
    block_blocks bs was cs outer true (block l args ops more) s each d free own = (
      block_ops bs was cs outer l (numbers args) (numbers args) ops s each.2 d.0 (λ x h. own x (or_left (has x (numbers args)) _ h))
          (record { free = λ x h. free x (inl h); binds = λ x e. own x (or_right (has x (numbers args)) _ (or_left (binds_in_ops x (ops_blocks bits arg ops)) _ e)) }),
      block_blocks bs was cs outer false more s each.3 d.1 (λ x h. free x (inr h)) (λ x e. own x (or_right (has x (numbers args)) _ (or_right (binds_in_ops x (ops_blocks bits arg ops)) _ e))),
    )
    block_blocks bs was cs outer false (block l args ops more) s each d free own = (
      front_defined cs outer l l 0 (numbers (new_arguments bits (arg l) 0 args)) args (ops_blocks bits arg ops) (λ x h. h) (λ x h. own x (or_left (has x (numbers (new_arguments bits (arg l) 0 args))) _ h))
          (record {
            free = λ x h. free x (inl h);
            binds = λ x e. own x (or_right (has x (numbers (new_arguments bits (arg l) 0 args))) _ (or_left (binds_in_ops x (casts_back bits (arg l) 0 args (ops_blocks bits arg ops))) _ e));
          })
          (λ b bounds w. block_ops bs was cs outer l (numbers args) b ops s each.2 d.0 bounds w),
      block_blocks bs was cs outer false more s each.3 d.1 (λ x h. free x (inr h))
          (λ x e. own x (or_right (has x (numbers (new_arguments bits (arg l) 0 args))) _ (or_right (binds_in_ops x (casts_back bits (arg l) 0 args (ops_blocks bits arg ops))) _ e))),
    )

  -- a function whose blocks get converted arguments keeps the rule
  pub function_blocks : (k : Kind) (rs : Values) (os ls : List ℕ) (r : Regions) → EachOp Old OldLabel (op k rs os r ls) → DefinedFunction (op k rs os r ls) → DefinedFunction (op_blocks bits arg (op k rs os r ls))
  function_blocks k rs os ls r each d = (d.0, block_regions (λ x. ⊥) (λ x. ⊥) r each.2 d.1 (λ x old h. free_in_region x r d.1 (regions_free x r old h)))
    where
      free_in_region : (x : ℕ) (s : Regions) → DefinedRegions (λ y. ⊥) s → FreeRegions x s → ⊥
      free_in_region x s e h = outer_regions (λ y. ⊥) x s e h
