-- The values of a tree in which operations are replaced by others one after another.
use Rattle.std.proofs.Common.{◌≡◌, ℕ, List, [], ◌∷◌, ◌++◌, subst, inl, inr}
use Rattle.std.specs.Prelude.{◌⊎◌}
use Rattle.plain_tree.specs.Types.{PlainType}
use Rattle.plain_tree.specs.Ops.{Op, op, Ops, end_of_ops, more_ops, Regions, end_of_regions, region, Blocks, end_of_blocks, block, Values}
use Rattle.plain_tree.specs.Values.{blocks_values, op_values, ops_values, regions_values}
use Rattle.conversion_model.specs.Conversion.{regions_of}
use Rattle.line_rules.specs.Lines.{HasValue, LinedBlocks, LinedOps, LinedRegions, LineKeeps, lined_block, lined_end, lined_no_block, lined_no_region, lined_region, list_values, put_ops, stays, swaps, TurnKeeps, turns, values_of}
use Rattle.line_rules.proofs.Once.{value_cases, value_left, value_right}

mutual
  -- what stands behind is among the values
  pub behind_op : (x : ℕ) (t : PlainType) (o : Op) (more : Values) → HasValue x t more → HasValue x t (op_values o more)
  behind_op x t (op k rs os r ls) more h = value_right x t rs (regions_values r more) (behind_regions x t r more h)

  pub behind_ops : (x : ℕ) (t : PlainType) (os : Ops) (more : Values) → HasValue x t more → HasValue x t (ops_values os more)
  behind_ops x t end_of_ops more h = h
  behind_ops x t (more_ops o os) more h = behind_op x t o (ops_values os more) (behind_ops x t os more h)

  pub behind_regions : (x : ℕ) (t : PlainType) (rs : Regions) (more : Values) → HasValue x t more → HasValue x t (regions_values rs more)
  behind_regions x t end_of_regions more h = h
  behind_regions x t (region b r) more h = behind_blocks x t b (regions_values r more) (behind_regions x t r more h)

  pub behind_blocks : (x : ℕ) (t : PlainType) (bs : Blocks) (more : Values) → HasValue x t more → HasValue x t (blocks_values bs more)
  behind_blocks x t end_of_blocks more h = h
  behind_blocks x t (block l args ops b) more h = value_right x t args (ops_values ops (blocks_values b more)) (behind_ops x t ops (blocks_values b more) (behind_blocks x t b more h))

pub own_value : (x : ℕ) (t : PlainType) (o : Op) (more : Values) → HasValue x t (values_of o) → HasValue x t (op_values o more)
own_value x t (op k rs os r ls) more h = value_left x t rs (regions_values r more) h

pub bare_value : (x : ℕ) (t : PlainType) (o : Op) (more : Values) → regions_of o ≡ end_of_regions → HasValue x t (op_values o more) → HasValue x t (values_of o) ⊎ HasValue x t more
bare_value x t (op k rs os r ls) more bare h = value_cases x t rs more (subst (λ s. HasValue x t (rs ++ regions_values s more)) bare h)

pub list_value : (x : ℕ) (t : PlainType) (l : List Op) (tail : Ops) (more : Values) → HasValue x t (list_values l) → HasValue x t (ops_values (put_ops l tail) more)
list_value x t [] tail more h = absurd h
list_value x t (p ∷ l) tail more h = elim (value_cases x t (values_of p) (list_values l) h) [
  | inl a ↦ own_value x t p (ops_values (put_ops l tail) more) a
  | inr a ↦ behind_op x t p (ops_values (put_ops l tail) more) (list_value x t l tail more a)
]

pub tail_value : (x : ℕ) (t : PlainType) (l : List Op) (tail : Ops) (more : Values) → HasValue x t (ops_values tail more) → HasValue x t (ops_values (put_ops l tail) more)
tail_value x t [] tail more h = h
tail_value x t (p ∷ l) tail more h = behind_op x t p (ops_values (put_ops l tail) more) (tail_value x t l tail more h)

module _ (K : ℕ → Op → Type 0) (G : ℕ → Op → List Op → Type 0) (H : ℕ → Op → List Op → Op → Type 0)
    (line : (n : ℕ) (o : Op) (l : List Op) → G n o l → LineKeeps o l) (turn : (n : ℕ) (o : Op) (l : List Op) (t : Op) → H n o l t → TurnKeeps o l t) where
  mutual
    -- each value is kept, with its type
    pub ops_kept : {n : ℕ} {os ps : Ops} (x : ℕ) (t : PlainType) (more others : Values) → LinedOps K G H n os ps → (HasValue x t more → HasValue x t others) → HasValue x t (ops_values os more) → HasValue x t (ops_values ps others)
    ops_kept x t more others lined_end f h = f h
    ops_kept x t more others (stays {rs = rs} {r = r} {s = s} {rest = rest} {more = after} _ y d) f h = elim (value_cases x t rs (regions_values r (ops_values rest more)) h) [
      | inl a ↦ value_left x t rs (regions_values s (ops_values after others)) a
      | inr a ↦ value_right x t rs (regions_values s (ops_values after others)) (regions_kept x t (ops_values rest more) (ops_values after others) y (ops_kept x t more others d f) a)
    ]
    ops_kept x t more others (swaps {n = n} {o = o} l {rest = rest} {more = after} g d) f h = elim (bare_value x t o (ops_values rest more) (line n o l g).bare h) [
      | inl a ↦ list_value x t l after others ((line n o l g).values x t a)
      | inr a ↦ tail_value x t l after others (ops_kept x t more others d f a)
    ]
    ops_kept x t more others (turns {n = n} {o = o} l e {rest = rest} {more = after} g d) f h = elim (bare_value x t o (ops_values rest more) (turn n o l e g).bare h) [
      | inl a ↦ absurd (subst (HasValue x t) (turn n o l e g).values a)
      | inr a ↦ tail_value x t l (more_ops e after) others (behind_op x t e (ops_values after others) (ops_kept x t more others d f a))
    ]

    pub regions_kept : {n : ℕ} {rs ss : Regions} (x : ℕ) (t : PlainType) (more others : Values) → LinedRegions K G H n rs ss → (HasValue x t more → HasValue x t others) → HasValue x t (regions_values rs more) → HasValue x t (regions_values ss others)
    regions_kept x t more others lined_no_region f h = f h
    regions_kept x t more others (lined_region {r = r} {s = s} y d) f h = blocks_kept x t (regions_values r more) (regions_values s others) y (regions_kept x t more others d f) h

    pub blocks_kept : {n : ℕ} {bs cs : Blocks} (x : ℕ) (t : PlainType) (more others : Values) → LinedBlocks K G H n bs cs → (HasValue x t more → HasValue x t others) → HasValue x t (blocks_values bs more) → HasValue x t (blocks_values cs others)
    blocks_kept x t more others lined_no_block f h = f h
    blocks_kept x t more others (lined_block {args = args} {ops = ops} {qs = qs} {b = b} {c = c} y d) f h = elim (value_cases x t args (ops_values ops (blocks_values b more)) h) [
      | inl a ↦ value_left x t args (ops_values qs (blocks_values c others)) a
      | inr a ↦ value_right x t args (ops_values qs (blocks_values c others)) (ops_kept x t (blocks_values b more) (blocks_values c others) y (blocks_kept x t more others d f) a)
    ]
