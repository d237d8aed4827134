-- Values of a tree: their types (those of plain trees, passed on), their uses, and copies left out.
use Rattle.std.specs.Prelude.{ℕ, ◌+◌, ◌==◌, Bool, List, [], ◌∷◌, ◌++◌, map, if◌then◌else◌}
use Rattle.std.specs.Str.{bytes_eq}
pub use Rattle.plain_tree.specs.Values.{op_values, ops_values, regions_values, blocks_values, type_in, types_of}
use Rattle.plain_tree.specs.Ops.{Op, op, Ops, end_of_ops, more_ops, Regions, end_of_regions, region, Blocks, end_of_blocks, block}
use Rattle.conversion_model.specs.Templates.{copy_name}
use Rattle.conversion_model.specs.Targets.{name_of}
use Rattle.conversion_model.specs.Items.{op_size, ops_size, blocks_size}

abbrev mutual
  -- the tree with other operands
  pub op_uses : (ℕ → ℕ) → Op → Op
  op_uses to (op k results operands regions successors) = op k results (map to operands) (regions_uses to regions) successors

  pub ops_uses : (ℕ → ℕ) → Ops → Ops
  ops_uses to end_of_ops = end_of_ops
  ops_uses to (more_ops o os) = more_ops (op_uses to o) (ops_uses to os)

  pub regions_uses : (ℕ → ℕ) → Regions → Regions
  regions_uses to end_of_regions = end_of_regions
  regions_uses to (region blocks more) = region (blocks_uses to blocks) (regions_uses to more)

  pub blocks_uses : (ℕ → ℕ) → Blocks → Blocks
  blocks_uses to end_of_blocks = end_of_blocks
  blocks_uses to (block label args ops more) = block label args (ops_uses to ops) (blocks_uses to more)

abbrev mutual
  -- the tree without the operations in it that the test holds of
  pub op_without : (Op → Bool) → Op → Op
  op_without test (op k results operands regions successors) = op k results operands (regions_without test regions) successors

  pub ops_without : (Op → Bool) → Ops → Ops
  ops_without test end_of_ops = end_of_ops
  ops_without test (more_ops o os) = if test o then ops_without test os else more_ops (op_without test o) (ops_without test os)

  pub regions_without : (Op → Bool) → Regions → Regions
  regions_without test end_of_regions = end_of_regions
  regions_without test (region blocks more) = region (blocks_without test blocks) (regions_without test more)

  pub blocks_without : (Op → Bool) → Blocks → Blocks
  blocks_without test end_of_blocks = end_of_blocks
  blocks_without test (block label args ops more) = block label args (ops_without test ops) (blocks_without test more)

abbrev mutual
  -- the operations of a tree with their numbers from n on, an operation before those in its regions, in front of others
  pub op_listed : ℕ → Op → List (ℕ × Op) → List (ℕ × Op)
  op_listed n (op k results operands regions successors) more = (n, op k results operands regions successors) ∷ regions_listed (n + 1) regions more

  pub ops_listed : ℕ → Ops → List (ℕ × Op) → List (ℕ × Op)
  ops_listed n end_of_ops more = more
  ops_listed n (more_ops o os) more = op_listed n o (ops_listed (n + op_size o) os more)

  pub regions_listed : ℕ → Regions → List (ℕ × Op) → List (ℕ × Op)
  regions_listed n end_of_regions more = more
  regions_listed n (region blocks rest) more = blocks_listed n blocks (regions_listed (n + blocks_size blocks) rest more)

  pub blocks_listed : ℕ → Blocks → List (ℕ × Op) → List (ℕ × Op)
  blocks_listed n end_of_blocks more = more
  blocks_listed n (block label args ops rest) more = ops_listed n ops (blocks_listed (n + ops_size ops) rest more)

-- the operations of a tree with their numbers
abbrev pub operations : Op → List (ℕ × Op)
operations o = op_listed 0 o []

-- Copies

-- whether an operation is a copy
abbrev pub is_copy : Op → Bool
is_copy o = bytes_eq (name_of o) copy_name

abbrev pub pair_in : Op → List (ℕ × ℕ)
pair_in (op k (r ∷ []) (v ∷ []) regions successors) = (r.0, v) ∷ []
pair_in _ = []

-- each copy as its result and the value that it stands for, in the order of the text
abbrev pub copies_in : List (ℕ × Op) → List (ℕ × ℕ)
copies_in [] = []
copies_in (o ∷ os) = if is_copy o.1 then pair_in o.1 ++ copies_in os else copies_in os

abbrev pub replaced : ℕ → ℕ → ℕ → ℕ
replaced from to n = if n == from then to else n

-- the value that a number stands for: each copy in turn gives its uses, those in later copies too, to its value
abbrev pub followed : List (ℕ × ℕ) → (ℕ → ℕ) → ℕ → ℕ
followed [] earlier n = n
followed (c ∷ cs) earlier n = let to : ℕ = earlier c.1 in followed cs (λ v. replaced c.0 to (earlier v)) (replaced c.0 to n)

-- the text without copies, where each use of a copy is one of the value that it stands for
abbrev pub copies_left_out : Op → Op
copies_left_out f = op_uses (followed (copies_in (operations f)) (λ v. v)) (op_without is_copy f)
