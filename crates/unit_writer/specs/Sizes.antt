-- Numbers of operations from a list of sizes.
use Rattle.std.specs.Prelude.{ℕ, ◌+◌, List, [], ◌∷◌, ◌++◌, get_or}
use Rattle.plain_tree.specs.Ops.{Op, op, Ops, end_of_ops, more_ops, Regions, end_of_regions, region, Blocks, end_of_blocks, block}
use Rattle.conversion_model.specs.Items.{op_size}

abbrev mutual
  -- the size of each operation of a tree in the order of the text
  pub op_sizes : Op → List ℕ
  op_sizes (op k results operands regions successors) = op_size (op k results operands regions successors) ∷ regions_sizes regions

  pub ops_sizes : Ops → List ℕ
  ops_sizes end_of_ops = []
  ops_sizes (more_ops o os) = op_sizes o ++ ops_sizes os

  pub regions_sizes : Regions → List ℕ
  regions_sizes end_of_regions = []
  regions_sizes (region blocks more) = blocks_sizes blocks ++ regions_sizes more

  pub blocks_sizes : Blocks → List ℕ
  blocks_sizes end_of_blocks = []
  blocks_sizes (block label args ops more) = ops_sizes ops ++ blocks_sizes more

-- the number behind operations from n on, by the size that stands at each number
abbrev pub behind_ops : List ℕ → ℕ → Ops → ℕ
behind_ops sizes n end_of_ops = n
behind_ops sizes n (more_ops o os) = behind_ops sizes (n + get_or sizes n 0) os

abbrev pub behind_blocks : List ℕ → ℕ → Blocks → ℕ
behind_blocks sizes n end_of_blocks = n
behind_blocks sizes n (block label args ops more) = behind_blocks sizes (behind_ops sizes n ops) more
