-- The values of a tree, with their types.
use Rattle.std.specs.Prelude.{ℕ, ◌==◌, [], ◌∷◌, ◌++◌, if◌then◌else◌}
use Rattle.plain_tree.specs.Types.{PlainType, Void}
use Rattle.plain_tree.specs.Ops.{Op, op, Ops, end_of_ops, more_ops, Regions, end_of_regions, region, Blocks, end_of_blocks, block, Values}

abbrev mutual
  -- all values that are defined by an operation and in it, in front of others
  pub op_values : Op → Values → Values
  op_values (op k results operands regions successors) more = results ++ regions_values regions more

  pub ops_values : Ops → Values → Values
  ops_values end_of_ops more = more
  ops_values (more_ops o os) more = op_values o (ops_values os more)

  pub regions_values : Regions → Values → Values
  regions_values end_of_regions more = more
  regions_values (region blocks rest) more = blocks_values blocks (regions_values rest more)

  pub blocks_values : Blocks → Values → Values
  blocks_values end_of_blocks more = more
  blocks_values (block label args ops rest) more = args ++ ops_values ops (blocks_values rest more)

-- the type of the value with this number, `void` where there is none
abbrev pub type_in : Values → ℕ → PlainType
type_in [] n = Void
type_in (v ∷ vs) n = if v.0 == n then v.1 else type_in vs n

-- the types of the values of a function
abbrev pub types_of : Op → ℕ → PlainType
types_of f = type_in (op_values f [])
