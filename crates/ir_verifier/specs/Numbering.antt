-- The numbers of the values of a function, as code goes through its tree.
use Rattle.std.specs.Prelude.{ℕ, List, [], ◌++◌}
use Rattle.plain_tree.specs.Ops.{Op, op, Ops, end_of_ops, more_ops, Regions, end_of_regions, region, Blocks, end_of_blocks, block}
use Rattle.rule_model.specs.Words.{numbers}

abbrev mutual
  -- the numbers of the values that are defined by an operation and in it
  pub op_numbers : Op → List ℕ
  op_numbers (op k results operands regions successors) = numbers results ++ regions_numbers regions

  pub ops_numbers : Ops → List ℕ
  ops_numbers end_of_ops = []
  ops_numbers (more_ops o rest) = op_numbers o ++ ops_numbers rest

  pub regions_numbers : Regions → List ℕ
  regions_numbers end_of_regions = []
  regions_numbers (region blocks rest) = blocks_numbers blocks ++ regions_numbers rest

  pub blocks_numbers : Blocks → List ℕ
  blocks_numbers end_of_blocks = []
  blocks_numbers (block label args ops rest) = (numbers args ++ ops_numbers ops) ++ blocks_numbers rest
