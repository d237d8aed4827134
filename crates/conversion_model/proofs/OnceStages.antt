-- What is left out and other operands define nothing more.
use Rattle.std.proofs.Common.{◌≡◌, ℕ, zero, suc, ◌+◌, ◌≤◌, Bool, true, false, [], ◌∷◌, Option, Some, None, refl, arith, length}
use Rattle.std.specs.Prelude.{if◌then◌else◌}
use Rattle.std.specs.List.{list_any}
use Rattle.plain_tree.specs.Ops.{Op, op, Ops, end_of_ops, more_ops, Regions, end_of_regions, region, Blocks, end_of_blocks, block, Values}
use Rattle.conversion_model.specs.Uses.{copies_in, copies_left_out, followed, is_copy, operations, op_uses, ops_uses, regions_uses, blocks_uses, op_without, ops_without, regions_without, blocks_without, replaced}
use Rattle.conversion_model.specs.Reconciled.{is_cast_of, is_unused_cast, pair_of, pairs_left_out, reconciled, unused_left_out, without_pair}
use Rattle.conversion_model.specs.Fresh.{EachValue, EachOp, EachOps, EachRegion, EachBlock}
use Rattle.conversion_model.specs.Counts.{blocks_total, op_total, ops_total, regions_total, values_total}

mutual
  pub op_uses_total : (value label to : ℕ → ℕ) (o : Op) → op_total value label (op_uses to o) ≡ op_total value label o
  op_uses_total value label to (op k results operands regions successors) = omega (arith, regions_uses_total value label to regions)

  pub ops_uses_total : (value label to : ℕ → ℕ) (os : Ops) → ops_total value label (ops_uses to os) ≡ ops_total value label os
  ops_uses_total value label to end_of_ops = refl
  ops_uses_total value label to (more_ops o os) = omega (arith, op_uses_total value label to o, ops_uses_total value label to os)

  pub regions_uses_total : (value label to : ℕ → ℕ) (rs : Regions) → regions_total value label (regions_uses to rs) ≡ regions_total value label rs
  regions_uses_total value label to end_of_regions = refl
  regions_uses_total value label to (region blocks more) = omega (arith, blocks_uses_total value label to blocks, regions_uses_total value label to more)

  pub blocks_uses_total : (value label to : ℕ → ℕ) (bs : Blocks) → blocks_total value label (blocks_uses to bs) ≡ blocks_total value label bs
  blocks_uses_total value label to end_of_blocks = refl
  blocks_uses_total value label to (block l args ops more) = omega (arith, ops_uses_total value label to ops, blocks_uses_total value label to more)

kept_total : (value label : ℕ → ℕ) (o p : Op) (os ps : Ops) (b : Bool) → op_total value label p ≤ op_total value label o → ops_total value label ps ≤ ops_total value label os
    → ops_total value label (if b then ps else more_ops p ps) ≤ op_total value label o + ops_total value label os
kept_total value label o p os ps true l m = omega (arith, l, m)
kept_total value label o p os ps false l m = omega (arith, l, m)

mutual
  pub op_without_total : (value label : ℕ → ℕ) (test : Op → Bool) (o : Op) → op_total value label (op_without test o) ≤ op_total value label o
  op_without_total value label test (op k results operands regions successors) = omega (arith, regions_without_total value label test regions)

  pub ops_without_total : (value label : ℕ → ℕ) (test : Op → Bool) (os : Ops) → ops_total value label (ops_without test os) ≤ ops_total value label os
  ops_without_total value label test end_of_ops = omega arith
  ops_without_total value label test (more_ops o os) =
      kept_total value label o (op_without test o) os (ops_without test os) (test o) (op_without_total value label test o) (ops_without_total value label test os)

  pub regions_without_total : (value label : ℕ → ℕ) (test : Op → Bool) (rs : Regions) → regions_total value label (regions_without test rs) ≤ regions_total value label rs
  regions_without_total value label test end_of_regions = omega arith
  regions_without_total value label test (region blocks more) = omega (arith, blocks_without_total value label test blocks, regions_without_total value label test more)

  pub blocks_without_total : (value label : ℕ → ℕ) (test : Op → Bool) (bs : Blocks) → blocks_total value label (blocks_without test bs) ≤ blocks_total value label bs
  blocks_without_total value label test end_of_blocks = omega arith
  blocks_without_total value label test (block l args ops more) = omega (arith, ops_without_total value label test ops, blocks_without_total value label test more)

pub copies_total : (value label : ℕ → ℕ) (f : Op) → op_total value label (copies_left_out f) ≤ op_total value label f
copies_total value label f =
    omega (arith, op_uses_total value label (followed (copies_in (operations f)) (λ v. v)) (op_without is_copy f), op_without_total value label is_copy f)

-- Reconciliation

pairs_by : (value label : ℕ → ℕ) (room : ℕ) (f : Op) (o : Option (ℕ × ℕ)) → ((p : ℕ × ℕ) → op_total value label (pairs_left_out room (without_pair p f)) ≤ op_total value label f)
    → op_total value label (elim o [ None ↦ f | Some p ↦ pairs_left_out room (without_pair p f) ]) ≤ op_total value label f
pairs_by value label room f None more = omega arith
pairs_by value label room f (Some p) more = more p

pair_total : (value label : ℕ → ℕ) (p : ℕ × ℕ) (f : Op) → op_total value label (without_pair p f) ≤ op_total value label f
pair_total value label p f =
    omega (arith, op_uses_total value label (replaced p.0 p.1) (op_without (is_cast_of p.0) f), op_without_total value label (is_cast_of p.0) f)

pairs_total : (value label : ℕ → ℕ) (room : ℕ) (f : Op) → op_total value label (pairs_left_out room f) ≤ op_total value label f
pairs_total value label zero f = omega arith
pairs_total value label (suc room) f =
    pairs_by value label room f (pair_of f) (λ p. omega (arith, pairs_total value label room (without_pair p f), pair_total value label p f))

unused_by : (value label : ℕ → ℕ) (room : ℕ) (f : Op) (b : Bool) → op_total value label (unused_left_out room (op_without (is_unused_cast (operations f)) f)) ≤ op_total value label f
    → op_total value label (elim b [ false ↦ f | true ↦ unused_left_out room (op_without (is_unused_cast (operations f)) f) ]) ≤ op_total value label f
unused_by value label room f false more = omega arith
unused_by value label room f true more = more

unused_total : (value label : ℕ → ℕ) (room : ℕ) (f : Op) → op_total value label (unused_left_out room f) ≤ op_total value label f
unused_total value label zero f = omega arith
unused_total value label (suc room) f =
    unused_by value label room f (list_any (λ o. is_unused_cast (operations f) o.1) (operations f))
    (omega (arith, unused_total value label room (op_without (is_unused_cast (operations f)) f), op_without_total value label (is_unused_cast (operations f)) f))

pub reconciled_total : (value label : ℕ → ℕ) (f : Op) → op_total value label (reconciled f) ≤ op_total value label f
reconciled_total value label f =
    omega (arith, unused_total value label (length (operations f)) (pairs_left_out (length (operations f)) f), pairs_total value label (length (operations f)) f)

-- What counts is there

pub either_part : {Goal : Type 0} (a b : ℕ) → (1 ≤ a → Goal) → (1 ≤ b → Goal) → 1 ≤ a + b → Goal
either_part zero b left right some = right (omega (arith, some))
either_part (suc a) b left right some = left (omega arith)

values_there : {P : ℕ → Type 0} {Goal : Type 0} (value : ℕ → ℕ) → ((n : ℕ) → 1 ≤ value n → P n → Goal) → (vs : Values) → EachValue P vs → 1 ≤ values_total value vs → Goal
values_there value found [] each some = absurd (omega (arith, some))
values_there value found (v ∷ vs) each some =
    either_part (value v.0) (values_total value vs) (λ here. found v.0 here each.0) (λ there. values_there value found vs each.1 there) some

mutual
  -- where a tree counts for something, a value or a label of it does
  pub op_there : {P Q : ℕ → Type 0} {Goal : Type 0} (value label : ℕ → ℕ) → ((n : ℕ) → 1 ≤ value n → P n → Goal) → ((l : ℕ) → 1 ≤ label l → Q l → Goal) → (o : Op) → EachOp P Q o → 1 ≤ op_total value label o → Goal
  op_there value label found opened (op k results operands regions successors) each some =
      either_part (values_total value results) (regions_total value label regions) (values_there value found results each.0) (regions_there value label found opened regions each.2) some

  pub ops_there : {P Q : ℕ → Type 0} {Goal : Type 0} (value label : ℕ → ℕ) → ((n : ℕ) → 1 ≤ value n → P n → Goal) → ((l : ℕ) → 1 ≤ label l → Q l → Goal) → (os : Ops) → EachOps P Q os → 1 ≤ ops_total value label os → Goal
  ops_there value label found opened end_of_ops each some = absurd (omega (arith, some))
  ops_there value label found opened (more_ops o os) each some =
      either_part (op_total value label o) (ops_total value label os) (op_there value label found opened o each.0) (ops_there value label found opened os each.1) some

  pub regions_there : {P Q : ℕ → Type 0} {Goal : Type 0} (value label : ℕ → ℕ) → ((n : ℕ) → 1 ≤ value n → P n → Goal) → ((l : ℕ) → 1 ≤ label l → Q l → Goal) → (rs : Regions) → EachRegion P Q rs → 1 ≤ regions_total value label rs → Goal
  regions_there value label found opened end_of_regions each some = absurd (omega (arith, some))
  regions_there value label found opened (region blocks more) each some =
      either_part (blocks_total value label blocks) (regions_total value label more) (blocks_there value label found opened blocks each.0) (regions_there value label found opened more each.1) some

  pub blocks_there : {P Q : ℕ → Type 0} {Goal : Type 0} (value label : ℕ → ℕ) → ((n : ℕ) → 1 ≤ value n → P n → Goal) → ((l : ℕ) → 1 ≤ label l → Q l → Goal) → (bs : Blocks) → EachBlock P Q bs → 1 ≤ blocks_total value label bs → Goal
  blocks_there value label found opened end_of_blocks each some = absurd (omega (arith, some))
  blocks_there value label found opened (block l args ops more) each some =
      either_part (label l) (values_total value args + (ops_total value label ops + blocks_total value label more)) (λ here. opened l here each.0)
      (either_part (values_total value args) (ops_total value label ops + blocks_total value label more) (values_there value found args each.1)
      (either_part (ops_total value label ops) (blocks_total value label more) (ops_there value label found opened ops each.2) (blocks_there value label found opened more each.3)))
      some
