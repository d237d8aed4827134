-- Operations whose names pass a test, with all that stand in them.
use Rattle.std.specs.Prelude.{ℕ, ◌&&◌, Bool, true, List}
use Rattle.plain_tree.specs.Ops.{Op, op, Ops, end_of_ops, more_ops, Regions, end_of_regions, region, Blocks, end_of_blocks, block}

abbrev mutual
  pub op_passes : (List ℕ → Bool) → Op → Bool
  op_passes test (op k results operands regions successors) = test k.name && regions_pass test regions

  pub ops_pass : (List ℕ → Bool) → Ops → Bool
  ops_pass test end_of_ops = true
  ops_pass test (more_ops o os) = op_passes test o && ops_pass test os

  pub regions_pass : (List ℕ → Bool) → Regions → Bool
  regions_pass test end_of_regions = true
  regions_pass test (region blocks more) = blocks_pass test blocks && regions_pass test more

  pub blocks_pass : (List ℕ → Bool) → Blocks → Bool
  blocks_pass test end_of_blocks = true
  blocks_pass test (block label args ops more) = ops_pass test ops && blocks_pass test more
