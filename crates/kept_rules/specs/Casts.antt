-- Values that other values stand for.
use Rattle.std.specs.Prelude.{◌≡◌, ℕ, Bool, true, false, Some, ⊤}
use Rattle.plain_tree.specs.Ops.{Op, op, Ops, end_of_ops, more_ops, Regions, end_of_regions, region, Blocks, end_of_blocks, block}
use Rattle.rule_model.specs.Words.{has, name_of, numbers, results_of}
use Rattle.rule_model.specs.Paths.{ends}
use Rattle.rule_model.specs.Control.{ends_well}
use Rattle.conversion_model.specs.Conversion.{regions_of}

abbrev mutual
  -- each operation that defines a uses b, and no block has a as an argument
  pub UsesFor : ℕ → ℕ → Op → Type 0
  UsesFor a b (op k rs os r ls) = (has a (numbers rs) ≡ true → has b os ≡ true) × UsesForRegions a b r

  pub UsesForOps : ℕ → ℕ → Ops → Type 0
  UsesForOps a b end_of_ops = ⊤
  UsesForOps a b (more_ops o os) = UsesFor a b o × UsesForOps a b os

  pub UsesForRegions : ℕ → ℕ → Regions → Type 0
  UsesForRegions a b end_of_regions = ⊤
  UsesForRegions a b (region c r) = UsesForBlocks a b c × UsesForRegions a b r

  pub UsesForBlocks : ℕ → ℕ → Blocks → Type 0
  UsesForBlocks a b end_of_blocks = ⊤
  UsesForBlocks a b (block l args ops more) = (has a (numbers args) ≡ false) × UsesForOps a b ops × UsesForBlocks a b more

-- an operation that is left out where the test holds: without regions, no terminator, and none of its results is used
pub record LeftOut (Used : ℕ → Type 0) (o : Op) : Type 0 where
  pub bare : regions_of o ≡ end_of_regions
  pub on : ends o ≡ false
  pub not_last : ends_well (Some (name_of o)) ≡ false
  pub unused : (x : ℕ) → Used x → has x (results_of o) ≡ false

abbrev mutual
  -- each operation in a tree that the test holds of may be left out, and each operand is used
  pub MayLeave : (Op → Bool) → (ℕ → Type 0) → Op → Type 0
  MayLeave test Used (op k rs os r ls) = ((x : ℕ) → has x os ≡ true → Used x) × MayLeaveRegions test Used r

  pub MayLeaveOps : (Op → Bool) → (ℕ → Type 0) → Ops → Type 0
  MayLeaveOps test Used end_of_ops = ⊤
  MayLeaveOps test Used (more_ops o os) = (test o ≡ true → LeftOut Used o) × MayLeave test Used o × MayLeaveOps test Used os

  pub MayLeaveRegions : (Op → Bool) → (ℕ → Type 0) → Regions → Type 0
  MayLeaveRegions test Used end_of_regions = ⊤
  MayLeaveRegions test Used (region b r) = MayLeaveBlocks test Used b × MayLeaveRegions test Used r

  pub MayLeaveBlocks : (Op → Bool) → (ℕ → Type 0) → Blocks → Type 0
  MayLeaveBlocks test Used end_of_blocks = ⊤
  MayLeaveBlocks test Used (block l args ops more) = MayLeaveOps test Used ops × MayLeaveBlocks test Used more
