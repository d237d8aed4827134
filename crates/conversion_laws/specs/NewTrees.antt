-- The tree behind a conversion without cuts, frames and copies, by recursion over the source.
use Rattle.std.specs.Prelude.{ℕ, ◌+◌, Bool, true, false, List, [], ◌∷◌}
use Rattle.plain_tree.specs.Types.{PlainType}
use Rattle.plain_tree.specs.Ops.{Op, op, Ops, end_of_ops, more_ops, Regions, end_of_regions, region, Blocks, end_of_blocks, block, Values}
use Rattle.conversion_model.specs.Targets.{shape_of}
use Rattle.conversion_model.specs.Items.{From, op_size, ops_size, blocks_size}
use Rattle.conversion_model.specs.Conversion.{Pass, Supply, casts_back, line_of, new_arguments}

-- operations in front of others
abbrev pub ops_front : List Op → Ops → Ops
ops_front [] rest = rest
ops_front (o ∷ os) rest = more_ops o (ops_front os rest)

-- the n-th operation of the source
abbrev pub source_at : ℕ → From
source_at n = record { number = n; piece = 0; path = [] }

-- the arguments of a block, and the operations behind them, where arguments are converted
abbrev pub args_at : Bool → ℕ → (ℕ → ℕ) → Values → Values
args_at true bits new args = new_arguments bits new 0 args
args_at false bits new args = args

abbrev pub front_at : Bool → ℕ → (ℕ → ℕ) → Values → Ops → Ops
front_at true bits new args rest = casts_back bits new 0 args rest
front_at false bits new args rest = rest

abbrev mutual
  -- operations from number n on; moves says whether the arguments of blocks are converted
  pub new_ops : Pass → ℕ → Supply → (ℕ → PlainType) → Bool → ℕ → Ops → Ops
  new_ops p bits new types moves n end_of_ops = end_of_ops
  new_ops p bits new types moves n (more_ops o os) = ops_front (new_op p bits new types moves n o) (new_ops p bits new types moves (n + op_size o) os)

  pub new_op : Pass → ℕ → Supply → (ℕ → PlainType) → Bool → ℕ → Op → List Op
  new_op p bits new types moves n (op k results operands regions successors) =
      line_of p bits new (source_at n) (shape_of types (op k results operands regions successors)) (op k results operands (new_regions p bits new types moves (n + 1) regions) successors)

  pub new_regions : Pass → ℕ → Supply → (ℕ → PlainType) → Bool → ℕ → Regions → Regions
  new_regions p bits new types moves n end_of_regions = end_of_regions
  new_regions p bits new types moves n (region blocks more) = region (new_blocks p bits new types moves n true blocks) (new_regions p bits new types moves (n + blocks_size blocks) more)

  pub new_blocks : Pass → ℕ → Supply → (ℕ → PlainType) → Bool → ℕ → Bool → Blocks → Blocks
  new_blocks p bits new types moves n is_first end_of_blocks = end_of_blocks
  new_blocks p bits new types moves n true (block label args ops more) =
      block label args (new_ops p bits new types moves n ops) (new_blocks p bits new types moves (n + ops_size ops) false more)
  new_blocks p bits new types moves n false (block label args ops more) =
      block label (args_at moves bits (new.argument label) args) (front_at moves bits (new.argument label) args (new_ops p bits new types moves n ops)) (new_blocks p bits new types moves (n + ops_size ops) false more)

-- a function
abbrev pub new_function : Pass → ℕ → Supply → (ℕ → PlainType) → Bool → Op → Op
new_function p bits new types moves (op k results operands regions successors) = op k results operands (new_regions p bits new types moves 1 regions) successors
