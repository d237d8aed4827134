-- How many operations a tree has: what is left out makes it smaller, and other operands leave it as it is.
use Rattle.std.proofs.Common.{◌≡◌, ℕ, suc, ◌+◌, ◌≤◌, Bool, true, false, List, refl, sym, ap, ◌∙◌, length, arith, true≢false}
use Rattle.std.specs.Prelude.{◌||◌, if◌then◌else◌}
use Rattle.std.specs.List.{list_any}
use Rattle.plain_tree.specs.Ops.{Op, op, Ops, end_of_ops, more_ops, Regions, end_of_regions, region, Blocks, end_of_blocks, block}
use Rattle.conversion_model.specs.Items.{op_size, ops_size, regions_size, blocks_size}
use Rattle.conversion_model.specs.Uses.{op_listed, ops_listed, regions_listed, blocks_listed, op_uses, ops_uses, regions_uses, blocks_uses, op_without, ops_without, regions_without, blocks_without}

mutual
  -- as many operations are listed as there are
  pub op_count : (n : ℕ) (o : Op) (more : List (ℕ × Op)) → length (op_listed n o more) ≡ op_size o + length more
  op_count n (op k results operands regions successors) more = omega (arith, regions_count (n + 1) regions more)

  pub ops_count : (n : ℕ) (os : Ops) (more : List (ℕ × Op)) → length (ops_listed n os more) ≡ ops_size os + length more
  ops_count n end_of_ops more = omega arith
  ops_count n (more_ops o os) more = omega (arith, op_count n o (ops_listed (n + op_size o) os more), ops_count (n + op_size o) os more)

  pub regions_count : (n : ℕ) (rs : Regions) (more : List (ℕ × Op)) → length (regions_listed n rs more) ≡ regions_size rs + length more
  regions_count n end_of_regions more = omega arith
  regions_count n (region blocks rest) more =
      omega (arith, blocks_count n blocks (regions_listed (n + blocks_size blocks) rest more), regions_count (n + blocks_size blocks) rest more)

  pub blocks_count : (n : ℕ) (bs : Blocks) (more : List (ℕ × Op)) → length (blocks_listed n bs more) ≡ blocks_size bs + length more
  blocks_count n end_of_blocks more = omega arith
  blocks_count n (block label args ops rest) more =
      omega (arith, ops_count n ops (blocks_listed (n + ops_size ops) rest more), blocks_count (n + ops_size ops) rest more)

mutual
  pub op_uses_size : (to : ℕ → ℕ) (o : Op) → op_size (op_uses to o) ≡ op_size o
  op_uses_size to (op k results operands regions successors) = ap (λ n. n + 1) (regions_uses_size to regions)

  pub ops_uses_size : (to : ℕ → ℕ) (os : Ops) → ops_size (ops_uses to os) ≡ ops_size os
  ops_uses_size to end_of_ops = refl
  ops_uses_size to (more_ops o os) = omega (arith, op_uses_size to o, ops_uses_size to os)

  pub regions_uses_size : (to : ℕ → ℕ) (rs : Regions) → regions_size (regions_uses to rs) ≡ regions_size rs
  regions_uses_size to end_of_regions = refl
  regions_uses_size to (region blocks more) = omega (arith, blocks_uses_size to blocks, regions_uses_size to more)

  pub blocks_uses_size : (to : ℕ → ℕ) (bs : Blocks) → blocks_size (blocks_uses to bs) ≡ blocks_size bs
  blocks_uses_size to end_of_blocks = refl
  blocks_uses_size to (block label args ops more) = omega (arith, ops_uses_size to ops, blocks_uses_size to more)

pub op_positive : (o : Op) → 1 ≤ op_size o
op_positive (op k results operands regions successors) = omega arith

kept_or_left : (o p : Op) (os ps : Ops) (b : Bool) → op_size p ≤ op_size o → ops_size ps ≤ ops_size os → ops_size (if b then ps else more_ops p ps) ≤ op_size o + ops_size os
kept_or_left o p os ps true l m = omega (arith, l, m)
kept_or_left o p os ps false l m = omega (arith, l, m)

mutual
  pub op_less : (test : Op → Bool) (o : Op) → op_size (op_without test o) ≤ op_size o
  op_less test (op k results operands regions successors) = omega (arith, regions_less test regions)

  pub ops_less : (test : Op → Bool) (os : Ops) → ops_size (ops_without test os) ≤ ops_size os
  ops_less test end_of_ops = omega arith
  ops_less test (more_ops o os) = kept_or_left o (op_without test o) os (ops_without test os) (test o) (op_less test o) (ops_less test os)

  pub regions_less : (test : Op → Bool) (rs : Regions) → regions_size (regions_without test rs) ≤ regions_size rs
  regions_less test end_of_regions = omega arith
  regions_less test (region blocks more) = omega (arith, blocks_less test blocks, regions_less test more)

  pub blocks_less : (test : Op → Bool) (bs : Blocks) → blocks_size (blocks_without test bs) ≤ blocks_size bs
  blocks_less test end_of_blocks = omega arith
  blocks_less test (block label args ops more) = omega (arith, ops_less test ops, blocks_less test more)

abbrev mutual
  -- whether the test holds of an operation inside
  pub op_inside : (Op → Bool) → Op → Bool
  op_inside test (op k results operands regions successors) = regions_any test regions

  pub ops_any : (Op → Bool) → Ops → Bool
  ops_any test end_of_ops = false
  ops_any test (more_ops o os) = test o || (op_inside test o || ops_any test os)

  pub regions_any : (Op → Bool) → Regions → Bool
  regions_any test end_of_regions = false
  regions_any test (region blocks more) = blocks_any test blocks || regions_any test more

  pub blocks_any : (Op → Bool) → Blocks → Bool
  blocks_any test end_of_blocks = false
  blocks_any test (block label args ops more) = ops_any test ops || blocks_any test more

or_three : (a b c d : Bool) → (a || (b || (c || d))) ≡ ((a || (b || c)) || d)
or_three true b c d = refl
or_three false true c d = refl
or_three false false c d = refl

or_two : (a b c : Bool) → (a || (b || c)) ≡ ((a || b) || c)
or_two true b c = refl
or_two false b c = refl

mutual
  -- the list of operations says the same
  pub op_any_listed : (test : Op → Bool) (n : ℕ) (o : Op) (more : List (ℕ × Op)) → list_any (λ x. test x.1) (op_listed n o more) ≡ (test o || (op_inside test o || list_any (λ x. test x.1) more))
  op_any_listed test n (op k results operands regions successors) more = ap (λ b. test (op k results operands regions successors) || b) (regions_any_listed test (n + 1) regions more)

  pub ops_any_listed : (test : Op → Bool) (n : ℕ) (os : Ops) (more : List (ℕ × Op)) → list_any (λ x. test x.1) (ops_listed n os more) ≡ (ops_any test os || list_any (λ x. test x.1) more)
  ops_any_listed test n end_of_ops more = refl
  ops_any_listed test n (more_ops o os) more =
      op_any_listed test n o (ops_listed (n + op_size o) os more)
      ∙ ap (λ b. test o || (op_inside test o || b)) (ops_any_listed test (n + op_size o) os more)
      ∙ or_three (test o) (op_inside test o) (ops_any test os) (list_any (λ x. test x.1) more)

  pub regions_any_listed : (test : Op → Bool) (n : ℕ) (rs : Regions) (more : List (ℕ × Op)) → list_any (λ x. test x.1) (regions_listed n rs more) ≡ (regions_any test rs || list_any (λ x. test x.1) more)
  regions_any_listed test n end_of_regions more = refl
  regions_any_listed test n (region blocks rest) more =
      blocks_any_listed test n blocks (regions_listed (n + blocks_size blocks) rest more)
      ∙ ap (λ b. blocks_any test blocks || b) (regions_any_listed test (n + blocks_size blocks) rest more)
      ∙ or_two (blocks_any test blocks) (regions_any test rest) (list_any (λ x. test x.1) more)

  pub blocks_any_listed : (test : Op → Bool) (n : ℕ) (bs : Blocks) (more : List (ℕ × Op)) → list_any (λ x. test x.1) (blocks_listed n bs more) ≡ (blocks_any test bs || list_any (λ x. test x.1) more)
  blocks_any_listed test n end_of_blocks more = refl
  blocks_any_listed test n (block label args ops rest) more =
      ops_any_listed test n ops (blocks_listed (n + ops_size ops) rest more)
      ∙ ap (λ b. ops_any test ops || b) (blocks_any_listed test (n + ops_size ops) rest more)
      ∙ or_two (ops_any test ops) (blocks_any test rest) (list_any (λ x. test x.1) more)

pub either : {P : Type 0} (a b : Bool) → (a || b) ≡ true → (a ≡ true → P) → (b ≡ true → P) → P
either true b is left right = left refl
either false b is left right = right is

-- an operation is left out, or something within it, or something behind it
fewer_ops : (o p : Op) (os ps : Ops) (b : Bool) → op_size p ≤ op_size o → ops_size ps ≤ ops_size os
    → (b ≡ false → suc (op_size p + ops_size ps) ≤ op_size o + ops_size os) → suc (ops_size (if b then ps else more_ops p ps)) ≤ op_size o + ops_size os
fewer_ops o p os ps true l m less = omega (arith, m, op_positive o)
fewer_ops o p os ps false l m less = less refl

mutual
  -- where the test holds of something inside, there are fewer operations then
  pub op_fewer : (test : Op → Bool) (o : Op) → op_inside test o ≡ true → suc (op_size (op_without test o)) ≤ op_size o
  op_fewer test (op k results operands regions successors) is = omega (arith, regions_fewer test regions is)

  pub ops_fewer : (test : Op → Bool) (os : Ops) → ops_any test os ≡ true → suc (ops_size (ops_without test os)) ≤ ops_size os
  ops_fewer test end_of_ops is = absurd (true≢false (sym is))
  ops_fewer test (more_ops o os) is =
      fewer_ops o (op_without test o) os (ops_without test os) (test o) (op_less test o) (ops_less test os) (λ not_here.
      either (op_inside test o) (ops_any test os) (sym (ap (λ b. b || (op_inside test o || ops_any test os)) not_here) ∙ is)
      (λ inside. omega (arith, op_fewer test o inside, ops_less test os))
      (λ behind. omega (arith, op_less test o, ops_fewer test os behind)))

  pub regions_fewer : (test : Op → Bool) (rs : Regions) → regions_any test rs ≡ true → suc (regions_size (regions_without test rs)) ≤ regions_size rs
  regions_fewer test end_of_regions is = absurd (true≢false (sym is))
  regions_fewer test (region blocks more) is =
      either (blocks_any test blocks) (regions_any test more) is
      (λ here. omega (arith, blocks_fewer test blocks here, regions_less test more))
      (λ behind. omega (arith, blocks_less test blocks, regions_fewer test more behind))

  pub blocks_fewer : (test : Op → Bool) (bs : Blocks) → blocks_any test bs ≡ true → suc (blocks_size (blocks_without test bs)) ≤ blocks_size bs
  blocks_fewer test end_of_blocks is = absurd (true≢false (sym is))
  blocks_fewer test (block label args ops more) is =
      either (ops_any test ops) (blocks_any test more) is
      (λ here. omega (arith, ops_fewer test ops here, blocks_less test more))
      (λ behind. omega (arith, ops_less test ops, blocks_fewer test more behind))
