-- What is known of each operation of a tree and of the arguments of each block.
use Rattle.std.proofs.Common.{◌≡◌, ℕ, zero, suc, ◌+◌, ◌==◌, ◌≤◌, Bool, true, false, List, [], ◌∷◌, Option, Some, None, refl, sym, ap, subst, arith, inl, inr, true≢false}
use Rattle.std.specs.Prelude.{codes, ◌||◌, map, if◌then◌else◌}
use Rattle.std.proofs.lemmas.Option.{none-some}
use Rattle.std.proofs.lemmas.Bool.{eqb-true}
use Rattle.std.proofs.lemmas.Slice.Eq.{bytes_eq-Decides}
use Rattle.plain_tree.specs.Types.{PlainType}
use Rattle.plain_tree.specs.Ops.{Kind, Op, op, Ops, end_of_ops, more_ops, Regions, end_of_regions, region, Blocks, end_of_blocks, block, PlainBlock, Values}
use Rattle.rule_model.specs.declared.rules.Rule.TheVariants as rule
use Rattle.rule_model.specs.declared.shapes.Shape.{Shape}
use Rattle.rule_model.specs.declared.shapes.Shape.TheVariants.{Branch, BranchOn}
use Rattle.rule_model.specs.Words.{binds, block_of, first_block, has, numbers, results_of, successors_of}
use Rattle.rule_model.specs.Control.{no_successors, successors_fit}
use Rattle.rule_model.specs.Facts.{Facts, Functions, Holder, facts_of, target}
use Rattle.rule_model.specs.Paths.{ends}
use Rattle.rule_model.specs.Rows.{ends_block_as, shape_of}
use Rattle.rule_model.specs.Scopes.{DefinedBlocks, DefinedOps, DefinedRegions}
use Rattle.rule_model.proofs.Numbers.{itself, some_same}
use Rattle.conversion_model.specs.Counts.{blocks_total, hits, none, op_total, ops_total, regions_total, values_total}
use Rattle.kept_rules.specs.Casts.{UsesFor, UsesForBlocks, UsesForOps, UsesForRegions}
use Rattle.line_rules.specs.Kept.{KeptBlocks, KeptOp, KeptOps, KeptRegions}
use Rattle.line_rules.proofs.Words.{clash, not_so}
use Rattle.kept_rules.proofs.CastPairs.{CastHere, HasCast, HasCastBlocks, HasCastOps, HasCastRegions}
use Rattle.kept_rules.proofs.CastScopes.{deeper_blocks, deeper_ops, none_bound, some_value}

-- P of each operation in a tree, Q of the arguments of each block
module _ (P : Op → Type 0) (Q : Values → Type 0) where
  abbrev mutual
    pub Each : Op → Type 0
    Each (op k rs os r ls) = P (op k rs os r ls) × EachRegions r

    pub EachOps : Ops → Type 0
    EachOps end_of_ops = Unit {0}
    EachOps (more_ops o os) = Each o × EachOps os

    pub EachRegions : Regions → Type 0
    EachRegions end_of_regions = Unit {0}
    EachRegions (region b r) = EachBlocks b × EachRegions r

    pub EachBlocks : Blocks → Type 0
    EachBlocks end_of_blocks = Unit {0}
    EachBlocks (block l args ops more) = Q args × EachOps ops × EachBlocks more

  pub each_here : (o : Op) → Each o → P o
  each_here (op k rs os r ls) e = e.0

  -- of a block that is found
  abbrev pub EachBlock : PlainBlock → Type 0
  EachBlock b = Q b.args × EachOps b.ops

  pub first_each : (cs : Blocks) (b : PlainBlock) → EachBlocks cs → first_block cs ≡ Some b → EachBlock b
  first_each end_of_blocks b all e = absurd (none-some b e)
  first_each (block l args ops more) b all e = subst EachBlock (some_same (record { label = l; args = args; ops = ops }) b e) (all.0, all.1)

  pub block_each : (cs : Blocks) (t : ℕ) (b : PlainBlock) → EachBlocks cs → block_of t cs ≡ Some b → EachBlock b
  block_each end_of_blocks t b all e = absurd (none-some b e)
  block_each (block l args ops more) t b all e = go (l == t) e (λ k. block_each more t b all.2 k)
    where
      go : (x : Bool) → (if x then Some (record { label = l; args = args; ops = ops }) else block_of t more) ≡ Some b → (block_of t more ≡ Some b → EachBlock b) → EachBlock b
      go true k later = subst EachBlock (some_same (record { label = l; args = args; ops = ops }) b k) (all.0, all.1)
      go false k later = later k

-- two things, both
module _ (P P' : Op → Type 0) (Q Q' : Values → Type 0) where
  abbrev pub BothOf : Op → Type 0
  BothOf o = P o × P' o

  abbrev pub BothIn : Values → Type 0
  BothIn vs = Q vs × Q' vs

  mutual
    pub op_both : (o : Op) → Each P Q o → Each P' Q' o → Each BothOf BothIn o
    op_both (op k rs os r ls) a b = ((a.0, b.0), regions_both r a.1 b.1)

    ops_both : (os : Ops) → EachOps P Q os → EachOps P' Q' os → EachOps BothOf BothIn os
    ops_both end_of_ops a b = tt
    ops_both (more_ops o os) a b = (op_both o a.0 b.0, ops_both os a.1 b.1)

    pub regions_both : (rs : Regions) → EachRegions P Q rs → EachRegions P' Q' rs → EachRegions BothOf BothIn rs
    regions_both end_of_regions a b = tt
    regions_both (region c r) a b = (blocks_both c a.0 b.0, regions_both r a.1 b.1)

    blocks_both : (bs : Blocks) → EachBlocks P Q bs → EachBlocks P' Q' bs → EachBlocks BothOf BothIn bs
    blocks_both end_of_blocks a b = tt
    blocks_both (block l args ops more) a b = ((a.0, b.0), ops_both ops a.1 b.1, blocks_both more a.2 b.2)

-- what follows from it
module _ (P P' : Op → Type 0) (Q Q' : Values → Type 0) (on : (o : Op) → P o → P' o) (also : (vs : Values) → Q vs → Q' vs) where
  mutual
    op_follows : (o : Op) → Each P Q o → Each P' Q' o
    op_follows (op k rs os r ls) e = (on (op k rs os r ls) e.0, regions_follow r e.1)

    ops_follow : (os : Ops) → EachOps P Q os → EachOps P' Q' os
    ops_follow end_of_ops e = tt
    ops_follow (more_ops o os) e = (op_follows o e.0, ops_follow os e.1)

    pub regions_follow : (rs : Regions) → EachRegions P Q rs → EachRegions P' Q' rs
    regions_follow end_of_regions e = tt
    regions_follow (region b r) e = (blocks_follow b e.0, regions_follow r e.1)

    blocks_follow : (bs : Blocks) → EachBlocks P Q bs → EachBlocks P' Q' bs
    blocks_follow end_of_blocks e = tt
    blocks_follow (block l args ops more) e = (also args e.0, ops_follow ops e.1, blocks_follow more e.2)

-- An operation that is no terminator has no successors

abbrev pub Calm : Op → Type 0
Calm o = ends o ≡ false → successors_of o ≡ []

abbrev pub Any : Values → Type 0
Any vs = Unit {0}

none_fits : (s : Option Shape) (f : Facts) → successors_fit f s ≡ true → ends_block_as s ≡ false → no_successors f.successors ≡ true
none_fits None f h e = h
none_fits (Some Branch) f h e = absurd (true≢false e)
none_fits (Some BranchOn) f h e = absurd (true≢false e)
none_fits (Some s) f h e = h

none_there : (bs : Blocks) (ls : List ℕ) → no_successors (map (target bs) ls) ≡ true → ls ≡ []
none_there bs [] h = refl
none_there bs (l ∷ ls) h = absurd (true≢false (sym h))

module _ (c : Functions) (T : ℕ → PlainType) where
  mutual
    pub op_calm : (holder : Option Holder) (bs : Blocks) (rest : Ops) (o : Op) → KeptOp c T holder bs rest o → Each Calm Any o
    op_calm holder bs rest (op k rs os r ls) kept = (
      λ e. none_there bs ls (none_fits (shape_of k.name) (facts_of T holder bs rest (op k rs os r ls)) (kept.0 rule.Successors) e),
      regions_calm _ 0 r kept.1,
    )

    ops_calm : (holder : Option Holder) (bs : Blocks) (os : Ops) → KeptOps c T holder bs os → EachOps Calm Any os
    ops_calm holder bs end_of_ops kept = tt
    ops_calm holder bs (more_ops o os) kept = (op_calm holder bs os o kept.0, ops_calm holder bs os kept.1)

    pub regions_calm : (holder : ℕ → Holder) (n : ℕ) (rs : Regions) → KeptRegions c T holder n rs → EachRegions Calm Any rs
    regions_calm holder n end_of_regions kept = tt
    regions_calm holder n (region b r) kept = (blocks_calm (Some (holder n)) b b kept.0, regions_calm holder (n + 1) r kept.1)

    blocks_calm : (holder : Option Holder) (bs cs : Blocks) → KeptBlocks c T holder bs cs → EachBlocks Calm Any cs
    blocks_calm holder bs end_of_blocks kept = tt
    blocks_calm holder bs (block l args ops more) kept = (tt, ops_calm holder bs ops kept.0, blocks_calm holder bs more kept.1)

-- A number that a cast defines and nothing else

abbrev pub cast_name : List ℕ
cast_name = codes "builtin.unrealized_conversion_cast"

-- the operation is a cast of v to r
abbrev pub IsCast : ℕ → ℕ → Op → Type 0
IsCast v r (op k rs os g ls) = (k.name ≡ cast_name) × (numbers rs ≡ r ∷ []) × (os ≡ v ∷ [])

-- only such a cast defines r
abbrev pub CastOf : ℕ → ℕ → Op → Type 0
CastOf v r o = has r (results_of o) ≡ true → IsCast v r o

abbrev pub NoArgument : ℕ → Values → Type 0
NoArgument r args = has r (numbers args) ≡ false

values_none : (r : ℕ) (vs : Values) → values_total (hits r) vs ≡ 0 → has r (numbers vs) ≡ false
values_none r vs e = not_so (has r (numbers vs)) (λ h. absurd (omega (arith, some_value r vs h, e)))

module _ (v r : ℕ) (t : PlainType) where
  mutual
    op_none : (o : Op) → op_total (hits r) none o ≡ 0 → Each (CastOf v r) (NoArgument r) o
    op_none (op k rs os g ls) e = ((λ h. clash h (values_none r rs (omega (arith, e)))), regions_none g (omega (arith, e)))

    ops_none : (os : Ops) → ops_total (hits r) none os ≡ 0 → EachOps (CastOf v r) (NoArgument r) os
    ops_none end_of_ops e = tt
    ops_none (more_ops o os) e = (op_none o (omega (arith, e)), ops_none os (omega (arith, e)))

    regions_none : (rs : Regions) → regions_total (hits r) none rs ≡ 0 → EachRegions (CastOf v r) (NoArgument r) rs
    regions_none end_of_regions e = tt
    regions_none (region b g) e = (blocks_none b (omega (arith, e)), regions_none g (omega (arith, e)))

    blocks_none : (bs : Blocks) → blocks_total (hits r) none bs ≡ 0 → EachBlocks (CastOf v r) (NoArgument r) bs
    blocks_none end_of_blocks e = tt
    blocks_none (block l args ops b) e = (values_none r args (omega (arith, e)), ops_none ops (omega (arith, e)), blocks_none b (omega (arith, e)))

  one_hit : (rs : Values) → rs ≡ (r, t) ∷ [] → 1 ≤ values_total (hits r) rs
  one_hit rs e = subst (λ vs. 1 ≤ values_total (hits r) vs) (sym e) (omega (arith, ap {B = ℕ} (λ b. if b then 1 else 0) (itself r)))

  mutual
    op_counts : (o : Op) → HasCast v r t o → 1 ≤ op_total (hits r) none o
    op_counts (op k rs os g ls) (inl h) = omega (arith, one_hit rs h.1)
    op_counts (op k rs os g ls) (inr h) = omega (arith, regions_count g h)

    ops_counts : (os : Ops) → HasCastOps v r t os → 1 ≤ ops_total (hits r) none os
    ops_counts end_of_ops h = absurd h
    ops_counts (more_ops o os) (inl h) = omega (arith, op_counts o h)
    ops_counts (more_ops o os) (inr h) = omega (arith, ops_counts os h)

    regions_count : (rs : Regions) → HasCastRegions v r t rs → 1 ≤ regions_total (hits r) none rs
    regions_count end_of_regions h = absurd h
    regions_count (region b g) (inl h) = omega (arith, blocks_count b h)
    regions_count (region b g) (inr h) = omega (arith, regions_count g h)

    blocks_count : (bs : Blocks) → HasCastBlocks v r t bs → 1 ≤ blocks_total (hits r) none bs
    blocks_count end_of_blocks h = absurd h
    blocks_count (block l args ops b) (inl h) = omega (arith, ops_counts ops h)
    blocks_count (block l args ops b) (inr h) = omega (arith, blocks_count b h)

  here : (k : Kind) (rs : Values) (os : List ℕ) (g : Regions) (ls : List ℕ) → CastHere v r t k rs os → IsCast v r (op k rs os g ls)
  here k rs os g ls h = ((bytes_eq-Decides k.name cast_name).0 h.0, ap numbers h.1, h.2)

  mutual
    pub op_cast : (o : Op) → HasCast v r t o → op_total (hits r) none o ≤ 1 → Each (CastOf v r) (NoArgument r) o
    op_cast (op k rs os g ls) (inl h) e = ((λ a. here k rs os g ls h), regions_none g (omega (arith, one_hit rs h.1, e)))
    op_cast (op k rs os g ls) (inr h) e = ((λ a. clash a (values_none r rs (omega (arith, regions_count g h, e)))), regions_cast g h (omega (arith, e)))

    ops_cast : (os : Ops) → HasCastOps v r t os → ops_total (hits r) none os ≤ 1 → EachOps (CastOf v r) (NoArgument r) os
    ops_cast end_of_ops h e = absurd h
    ops_cast (more_ops o os) (inl h) e = (op_cast o h (omega (arith, e)), ops_none os (omega (arith, op_counts o h, e)))
    ops_cast (more_ops o os) (inr h) e = (op_none o (omega (arith, ops_counts os h, e)), ops_cast os h (omega (arith, e)))

    pub regions_cast : (rs : Regions) → HasCastRegions v r t rs → regions_total (hits r) none rs ≤ 1 → EachRegions (CastOf v r) (NoArgument r) rs
    regions_cast end_of_regions h e = absurd h
    regions_cast (region b g) (inl h) e = (blocks_cast b h (omega (arith, e)), regions_none g (omega (arith, blocks_count b h, e)))
    regions_cast (region b g) (inr h) e = (blocks_none b (omega (arith, regions_count g h, e)), regions_cast g h (omega (arith, e)))

    blocks_cast : (bs : Blocks) → HasCastBlocks v r t bs → blocks_total (hits r) none bs ≤ 1 → EachBlocks (CastOf v r) (NoArgument r) bs
    blocks_cast end_of_blocks h e = absurd h
    blocks_cast (block l args ops b) (inl h) e =
        (values_none r args (omega (arith, ops_counts ops h, e)), ops_cast ops h (omega (arith, e)), blocks_none b (omega (arith, ops_counts ops h, e)))
    blocks_cast (block l args ops b) (inr h) e =
        (values_none r args (omega (arith, blocks_count b h, e)), ops_none ops (omega (arith, blocks_count b h, e)), blocks_cast b h (omega (arith, e)))

-- each operation that defines r uses v
module _ (P : Op → Type 0) (Q : Values → Type 0) (v r : ℕ) (casts : (o : Op) → P o → CastOf v r o) (apart : (vs : Values) → Q vs → NoArgument r vs) where
  mutual
    op_uses : (o : Op) → Each P Q o → UsesFor r v o
    op_uses (op k rs os g ls) e =
        ((λ h. subst (λ xs. has v xs ≡ true) (sym (casts (op k rs os g ls) e.0 h).2) (ap (λ b. b || false) (itself v))), regions_use g e.1)

    pub ops_use : (os : Ops) → EachOps P Q os → UsesForOps r v os
    ops_use end_of_ops e = tt
    ops_use (more_ops o os) e = (op_uses o e.0, ops_use os e.1)

    regions_use : (rs : Regions) → EachRegions P Q rs → UsesForRegions r v rs
    regions_use end_of_regions e = tt
    regions_use (region b g) e = (blocks_use b e.0, regions_use g e.1)

    pub blocks_use : (bs : Blocks) → EachBlocks P Q bs → UsesForBlocks r v bs
    blocks_use end_of_blocks e = tt
    blocks_use (block l args ops b) e = (apart args e.0, ops_use ops e.1, blocks_use b e.2)

-- Regions of an operation by their places, no blocks where there is none

abbrev pub region_of : ℕ → Regions → Blocks
region_of i end_of_regions = end_of_blocks
region_of zero (region b r) = b
region_of (suc i) (region b r) = region_of i r

pub region_each : (P : Op → Type 0) (Q : Values → Type 0) (i : ℕ) (r : Regions) → EachRegions P Q r → EachBlocks P Q (region_of i r)
region_each P Q i end_of_regions e = tt
region_each P Q zero (region b r) e = e.0
region_each P Q (suc i) (region b r) e = region_each P Q i r e.1

pub region_defined : (outer : ℕ → Type 0) (i : ℕ) (r : Regions) → DefinedRegions outer r → DefinedBlocks (region_of i r) outer (region_of i r)
region_defined outer i end_of_regions d = tt
region_defined outer zero (region b r) d = d.0
region_defined outer (suc i) (region b r) d = region_defined outer i r d.1

pub region_counts : (v i : ℕ) (r : Regions) → blocks_total (hits v) none (region_of i r) ≤ regions_total (hits v) none r
region_counts v i end_of_regions = omega arith
region_counts v zero (region b r) = omega arith
region_counts v (suc i) (region b r) = omega (arith, region_counts v i r)

-- Blocks that are found

pub first_defined : (bs : Blocks) (outer : ℕ → Type 0) (cs : Blocks) (b : PlainBlock) → DefinedBlocks bs outer cs → first_block cs ≡ Some b → DefinedOps bs outer b.label (numbers b.args) b.ops
first_defined bs outer end_of_blocks b d e = absurd (none-some b e)
first_defined bs outer (block l args ops more) b d e =
    subst (λ (c : PlainBlock). DefinedOps bs outer c.label (numbers c.args) c.ops) (some_same (record { label = l; args = args; ops = ops }) b e) d.0

pub block_defined : (bs : Blocks) (outer : ℕ → Type 0) (cs : Blocks) (t : ℕ) (b : PlainBlock) → DefinedBlocks bs outer cs → block_of t cs ≡ Some b → DefinedOps bs outer t (numbers b.args) b.ops
block_defined bs outer end_of_blocks t b d e = absurd (none-some b e)
block_defined bs outer (block l args ops more) t b d e = go (l == t) refl e (λ k. block_defined bs outer more t b d.1 k)
  where
    go : (x : Bool) → (l == t) ≡ x → (if x then Some (record { label = l; args = args; ops = ops }) else block_of t more) ≡ Some b
        → (block_of t more ≡ Some b → DefinedOps bs outer t (numbers b.args) b.ops) → DefinedOps bs outer t (numbers b.args) b.ops
    go true same k later =
        subst (λ n. DefinedOps bs outer n (numbers b.args) b.ops) (eqb-true l t same)
        (subst (λ (c : PlainBlock). DefinedOps bs outer l (numbers c.args) c.ops) (some_same (record { label = l; args = args; ops = ops }) b k) d.0)
    go false other k later = later k

pub first_deep : (v : ℕ) (cs : Blocks) (b : PlainBlock) → first_block cs ≡ Some b → deeper_ops v b.ops ≤ deeper_blocks v cs
first_deep v end_of_blocks b e = absurd (none-some b e)
first_deep v (block l args ops more) b e =
    subst (λ (c : PlainBlock). deeper_ops v c.ops ≤ deeper_ops v ops + deeper_blocks v more) (some_same (record { label = l; args = args; ops = ops }) b e) (omega arith)

pub block_deep : (v : ℕ) (cs : Blocks) (t : ℕ) (b : PlainBlock) → block_of t cs ≡ Some b → deeper_ops v b.ops ≤ deeper_blocks v cs
block_deep v end_of_blocks t b e = absurd (none-some b e)
block_deep v (block l args ops more) t b e = go (l == t) e (λ k. block_deep v more t b k)
  where
    go : (x : Bool) → (if x then Some (record { label = l; args = args; ops = ops }) else block_of t more) ≡ Some b → (block_of t more ≡ Some b → deeper_ops v b.ops ≤ deeper_blocks v more) → deeper_ops v b.ops ≤ deeper_ops v ops + deeper_blocks v more
    go true k later = subst (λ (c : PlainBlock). deeper_ops v c.ops ≤ deeper_ops v ops + deeper_blocks v more) (some_same (record { label = l; args = args; ops = ops }) b k) (omega arith)
    go false k later = omega (arith, later k)

-- what a region defines itself is counted
pub bound_counts : (v : ℕ) (bs : Blocks) → binds v bs ≡ true → 1 ≤ blocks_total (hits v) none bs
bound_counts v bs e = some_there (blocks_total (hits v) none bs) (λ z. clash e (none_bound v bs z))
  where
    some_there : (n : ℕ) → (n ≡ 0 → ⊥) → 1 ≤ n
    some_there zero never = absurd (never refl)
    some_there (suc n) never = omega arith
