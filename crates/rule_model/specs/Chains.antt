-- Rule `OwnUse`: which values a value uses.
use Rattle.std.specs.Prelude.{◌≡◌, ℕ, true, List, [], ◌++◌, if◌then◌else◌}
use Rattle.plain_tree.specs.Ops.{Op, op, Ops, end_of_ops, more_ops, Regions, end_of_regions, region, Blocks, end_of_blocks, block}
use Rattle.rule_model.specs.Words.{has, numbers}

abbrev mutual
  -- the operands of an operation and of those in its regions
  pub op_operands : Op → List ℕ
  op_operands (op k results operands regions successors) = operands ++ regions_operands regions

  pub ops_operands : Ops → List ℕ
  ops_operands end_of_ops = []
  ops_operands (more_ops o rest) = op_operands o ++ ops_operands rest

  pub regions_operands : Regions → List ℕ
  regions_operands end_of_regions = []
  regions_operands (region blocks more) = blocks_operands blocks ++ regions_operands more

  pub blocks_operands : Blocks → List ℕ
  blocks_operands end_of_blocks = []
  blocks_operands (block label args ops more) = ops_operands ops ++ blocks_operands more

abbrev mutual
  -- what the operations of a tree use of which v is a result
  pub op_used : ℕ → Op → List ℕ
  op_used v (op k results operands regions successors) =
      (if has v (numbers results) then operands ++ regions_operands regions else []) ++ regions_used v regions

  pub ops_used : ℕ → Ops → List ℕ
  ops_used v end_of_ops = []
  ops_used v (more_ops o rest) = op_used v o ++ ops_used v rest

  pub regions_used : ℕ → Regions → List ℕ
  regions_used v end_of_regions = []
  regions_used v (region blocks more) = blocks_used v blocks ++ regions_used v more

  pub blocks_used : ℕ → Blocks → List ℕ
  blocks_used v end_of_blocks = []
  blocks_used v (block label args ops more) = ops_used v ops ++ blocks_used v more

-- v uses u, over any number of operations
pub data Chain (f : Op) : ℕ → ℕ → Type 0 where
  uses : {v u : ℕ} → has u (op_used v f) ≡ true → Chain f v u
  by_way_of : {v w : ℕ} (u : ℕ) → has u (op_used v f) ≡ true → Chain f u w → Chain f v w
