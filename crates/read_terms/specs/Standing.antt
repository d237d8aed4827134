-- Operations that pass a test by what they are and by their results, with all that stand in them, where the arguments of each block pass another.
use Rattle.std.specs.Prelude.{◌&&◌, Bool, true}
use Rattle.plain_tree.specs.Ops.{Kind, Op, op, Ops, end_of_ops, more_ops, Regions, end_of_regions, region, Blocks, end_of_blocks, block, Values}

abbrev mutual
  -- an operation, with all in its regions
  pub op_stands : (Kind → Values → Bool) → (Values → Bool) → Op → Bool
  op_stands here args (op k results operands regions successors) = here k results && regions_stand here args regions

  pub ops_stand : (Kind → Values → Bool) → (Values → Bool) → Ops → Bool
  ops_stand here args end_of_ops = true
  ops_stand here args (more_ops o os) = op_stands here args o && ops_stand here args os

  pub regions_stand : (Kind → Values → Bool) → (Values → Bool) → Regions → Bool
  regions_stand here args end_of_regions = true
  regions_stand here args (region blocks more) = blocks_stand here args blocks && regions_stand here args more

  pub blocks_stand : (Kind → Values → Bool) → (Values → Bool) → Blocks → Bool
  blocks_stand here args end_of_blocks = true
  blocks_stand here args (block label vs ops more) = args vs && (ops_stand here args ops && blocks_stand here args more)
