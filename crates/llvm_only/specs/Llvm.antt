-- Modules all of whose operations are llvm ones.
use Rattle.std.specs.Prelude.{◌≡◌, ℕ, nat_eq, Bool, true, ◌&&◌, List, map, filter, is_some, codes}
use Rattle.std.specs.List.{list_all, starts_with}
use Rattle.plain_tree.specs.Ops.{Op, op, Ops, end_of_ops, more_ops, Regions, end_of_regions, region, Blocks, end_of_blocks, block, PlainModule}
use Rattle.rule_model.specs.Rows.{rows, llvm_rows}
use Rattle.op_catalog.specs.Table.{place_of}

-- the name of an llvm operation: it stands in the table of operations, and begins with `llvm.`
abbrev pub is_llvm : List ℕ → Bool
is_llvm name = is_some (place_of name) && starts_with nat_eq name (codes "llvm.")

-- Whether an operation and all in its regions are llvm ones, and so of operations, regions and blocks in order

abbrev mutual
  pub op_llvm : Op → Bool
  op_llvm (op k results operands regions successors) = is_llvm k.name && regions_llvm regions

  pub ops_llvm : Ops → Bool
  ops_llvm end_of_ops = true
  ops_llvm (more_ops o os) = op_llvm o && ops_llvm os

  pub regions_llvm : Regions → Bool
  regions_llvm end_of_regions = true
  regions_llvm (region blocks more) = blocks_llvm blocks && regions_llvm more

  pub blocks_llvm : Blocks → Bool
  blocks_llvm end_of_blocks = true
  blocks_llvm (block label args ops more) = ops_llvm ops && blocks_llvm more

-- whether all operations of a module are llvm ones, at each depth: its functions and what they hold
abbrev pub is_all_llvm : PlainModule → Bool
is_all_llvm m = list_all op_llvm m.funcs

-- of all names of the table these are the ones of llvm operations
abbrev pub LlvmNames : Type 0
LlvmNames = filter is_llvm (map (λ r. r.0) rows) ≡ map (λ r. r.0) llvm_rows
