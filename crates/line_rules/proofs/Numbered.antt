-- The operands of the operation with a number.
use Rattle.std.proofs.Common.{◌≡◌, ℕ, ◌+◌, ◌==◌, ◌<◌, ◌≤◌, Bool, true, false, List, refl, ap, ◌∙◌, arith}
use Rattle.std.specs.Prelude.{nat_lt, ⊤, if◌then◌else◌}
use Rattle.std.proofs.lemmas.Bool.{eqb-true, lt-ltb, ltb-true}
use Rattle.plain_tree.specs.Ops.{Op, op, Ops, end_of_ops, more_ops, Regions, end_of_regions, region, Blocks, end_of_blocks, block}
use Rattle.rule_model.proofs.Numbers.{itself}
use Rattle.line_rules.specs.Lines.{operands_blocks, operands_op, operands_ops, operands_regions}
use Rattle.conversion_model.specs.Items.{blocks_size, op_size, ops_size, regions_size}

abbrev mutual
  -- what is said of each number is so
  pub AtOp : (ℕ → List ℕ) → ℕ → Op → Type 0
  AtOp at n (op k rs os r ls) = (at n ≡ os) × AtRegions at (n + 1) r

  pub AtOps : (ℕ → List ℕ) → ℕ → Ops → Type 0
  AtOps at n end_of_ops = ⊤
  AtOps at n (more_ops o os) = AtOp at n o × AtOps at (n + op_size o) os

  pub AtRegions : (ℕ → List ℕ) → ℕ → Regions → Type 0
  AtRegions at n end_of_regions = ⊤
  AtRegions at n (region b r) = AtBlocks at n b × AtRegions at (n + blocks_size b) r

  pub AtBlocks : (ℕ → List ℕ) → ℕ → Blocks → Type 0
  AtBlocks at n end_of_blocks = ⊤
  AtBlocks at n (block l args ops more) = AtOps at n ops × AtBlocks at (n + ops_size ops) more

-- what agrees on these numbers
abbrev Same : (ℕ → List ℕ) → (ℕ → List ℕ) → ℕ → ℕ → Type 0
Same at other n size = (i : ℕ) → n ≤ i → i < n + size → at i ≡ other i

when_low : {A : Type 0} (i n : ℕ) (x y : A) → i < n → (if nat_lt i n then x else y) ≡ x
when_low i n x y h = ap (λ b. if b then x else y) (lt-ltb i n h)

when_high : {A : Type 0} (i n : ℕ) (x y : A) → n ≤ i → (if nat_lt i n then x else y) ≡ y
when_high i n x y h = go (nat_lt i n) refl
  where
    go : (b : Bool) → nat_lt i n ≡ b → (if b then x else y) ≡ y
    go true e = absurd (omega (arith, ltb-true i n e, h))
    go false e = refl

not_first : (i n : ℕ) {A : Type 0} (x y : A) → n + 1 ≤ i → (if i == n then x else y) ≡ y
not_first i n x y h = go (i == n) refl
  where
    go : (b : Bool) → (i == n) ≡ b → (if b then x else y) ≡ y
    go true e = absurd (omega (arith, eqb-true i n e, h))
    go false e = refl

mutual
  at_op : (at : ℕ → List ℕ) (n : ℕ) (o : Op) → Same at (operands_op n o) n (op_size o) → AtOp at n o
  at_op at n (op k rs os r ls) s = (
    s n (omega arith) (omega arith) ∙ ap (λ b. if b then os else operands_regions (n + 1) r n) (itself n),
    at_regions at (n + 1) r (λ i low high. s i (omega (arith, low)) (omega (arith, high)) ∙ not_first i n os (operands_regions (n + 1) r i) low),
  )

  at_ops : (at : ℕ → List ℕ) (n : ℕ) (os : Ops) → Same at (operands_ops n os) n (ops_size os) → AtOps at n os
  at_ops at n end_of_ops s = tt
  at_ops at n (more_ops o os) s = (
    at_op at n o (λ i low high. s i low (omega (arith, high)) ∙ when_low i (n + op_size o) (operands_op n o i) (operands_ops (n + op_size o) os i) high),
    at_ops at (n + op_size o) os (λ i low high. s i (omega (arith, low)) (omega (arith, high)) ∙ when_high i (n + op_size o) (operands_op n o i) (operands_ops (n + op_size o) os i) low),
  )

  pub at_regions : (at : ℕ → List ℕ) (n : ℕ) (rs : Regions) → Same at (operands_regions n rs) n (regions_size rs) → AtRegions at n rs
  at_regions at n end_of_regions s = tt
  at_regions at n (region b r) s = (
    at_blocks at n b (λ i low high. s i low (omega (arith, high)) ∙ when_low i (n + blocks_size b) (operands_blocks n b i) (operands_regions (n + blocks_size b) r i) high),
    at_regions at (n + blocks_size b) r (λ i low high. s i (omega (arith, low)) (omega (arith, high)) ∙ when_high i (n + blocks_size b) (operands_blocks n b i) (operands_regions (n + blocks_size b) r i) low),
  )

  at_blocks : (at : ℕ → List ℕ) (n : ℕ) (bs : Blocks) → Same at (operands_blocks n bs) n (blocks_size bs) → AtBlocks at n bs
  at_blocks at n end_of_blocks s = tt
  at_blocks at n (block l args ops more) s = (
    at_ops at n ops (λ i low high. s i low (omega (arith, high)) ∙ when_low i (n + ops_size ops) (operands_ops n ops i) (operands_blocks (n + ops_size ops) more i) high),
    at_blocks at (n + ops_size ops) more (λ i low high. s i (omega (arith, low)) (omega (arith, high)) ∙ when_high i (n + ops_size ops) (operands_ops n ops i) (operands_blocks (n + ops_size ops) more i) low),
  )

-- the operands by number are those of each operation
pub numbered : (n : ℕ) (rs : Regions) → AtRegions (operands_regions n rs) n rs
numbered n rs = at_regions (operands_regions n rs) n rs (λ i low high. refl)
