-- Operations as plain data, on which definitions recurse.
use Rattle.std.specs.Prelude.{ℕ, List, [], ◌∷◌, map}
use Rattle.tree_model.specs.declared.type_tree.TypeTree.{TypeTree}
use Rattle.tree_model.specs.declared.op_tree.OpTree.{OpTree, roll-OpTree}
use Rattle.tree_model.specs.declared.op_tree.BlockTree.{BlockTree, roll-BlockTree}
use Rattle.tree_model.specs.declared.op_tree.RegionTree.{RegionTree, roll-RegionTree}
use Rattle.tree_model.specs.declared.op_tree.BlockTree.TheOpen.{OpTree-F, BlockTree-F, RegionTree-F}
use Rattle.tree_model.specs.declared.op_tree.BlockTree.TheFolds.{fold-OpTree}
use Rattle.tree_model.specs.declared.op_tree.FuncTree.{FuncTree}
use Rattle.tree_model.specs.declared.op_tree.ModuleTree.{ModuleTree}
use Rattle.plain_tree.specs.Types.{PlainType, type_tree, plain_type}
use Rattle.plain_tree.specs.Attrs.{Entries, entries_tree, plain_entries}

-- values with their types
abbrev pub Values : Type 0
Values = List (ℕ × PlainType)

-- what an operation is, but for its values, regions and successors
pub record Kind : Type 0 where
  pub name : List ℕ
  pub props : Entries
  pub attrs : Entries

mutual
  -- an operation: kind, results, operands, regions, successors
  pub data Op : Type 0 where
    op : Kind → Values → List ℕ → Regions → List ℕ → Op

  -- operations in order
  pub data Ops : Type 0 where
    end_of_ops : Ops
    more_ops : Op → Ops → Ops

  -- regions in order, each by its blocks
  pub data Regions : Type 0 where
    end_of_regions : Regions
    region : Blocks → Regions → Regions

  -- blocks in order, each by its label, its arguments and its operations
  pub data Blocks : Type 0 where
    end_of_blocks : Blocks
    block : ℕ → Values → Ops → Blocks → Blocks

-- The way to the trees and back

abbrev pub values_tree : Values → List (ℕ × TypeTree)
values_tree [] = []
values_tree (v ∷ vs) = (v.0, type_tree v.1) ∷ values_tree vs

abbrev pub plain_values : List (ℕ × TypeTree) → Values
plain_values [] = []
plain_values (v ∷ vs) = (v.0, plain_type v.1) ∷ plain_values vs

abbrev mutual
  -- the tree of a plain operation
  pub op_tree : Op → OpTree
  op_tree (op k results operands regions successors) = roll-OpTree (record {
    name = k.name;
    results = values_tree results;
    operands = operands;
    props = entries_tree k.props;
    attrs = entries_tree k.attrs;
    regions = region_trees regions;
    successors = successors;
  })

  pub op_trees : Ops → List OpTree
  op_trees end_of_ops = []
  op_trees (more_ops o os) = op_tree o ∷ op_trees os

  pub region_trees : Regions → List RegionTree
  region_trees end_of_regions = []
  region_trees (region blocks more) = roll-RegionTree (record { blocks = block_trees blocks }) ∷ region_trees more

  pub block_trees : Blocks → List BlockTree
  block_trees end_of_blocks = []
  block_trees (block label args ops more) = roll-BlockTree (record { label = label; args = values_tree args; ops = op_trees ops }) ∷ block_trees more

abbrev pub ops_in : List Op → Ops
ops_in [] = end_of_ops
ops_in (o ∷ os) = more_ops o (ops_in os)

-- a block by itself
pub record PlainBlock : Type 0 where
  pub label : ℕ
  pub args : Values
  pub ops : Ops

abbrev pub blocks_in : List PlainBlock → Blocks
blocks_in [] = end_of_blocks
blocks_in (b ∷ bs) = block b.label b.args b.ops (blocks_in bs)

abbrev pub regions_in : List Blocks → Regions
regions_in [] = end_of_regions
regions_in (r ∷ rs) = region r (regions_in rs)

abbrev pub block_at : BlockTree-F PlainBlock Op Blocks → PlainBlock
block_at b = record { label = b.label; args = plain_values b.args; ops = ops_in b.ops }

abbrev pub op_at : OpTree-F PlainBlock Op Blocks → Op
op_at o = op (record { name = o.name; props = plain_entries o.props; attrs = plain_entries o.attrs }) (plain_values o.results) o.operands (regions_in o.regions) o.successors

abbrev pub region_at : RegionTree-F PlainBlock Op Blocks → Blocks
region_at r = blocks_in r.blocks

-- the plain form of an operation
unfoldable pub plain_op : OpTree → Op
plain_op = fold-OpTree PlainBlock Op Blocks block_at op_at region_at

-- the plain form of a function, and its tree
abbrev pub plain_func : FuncTree → Op
plain_func f = plain_op f.op

abbrev pub func_tree : Op → FuncTree
func_tree o = record { op = op_tree o }

-- a module: its properties, its attributes and its functions
pub record PlainModule : Type 0 where
  pub props : Entries
  pub attrs : Entries
  pub funcs : List Op

-- the plain form of a module, and its tree
abbrev pub plain_module : ModuleTree → PlainModule
plain_module m = record { props = plain_entries m.props; attrs = plain_entries m.attrs; funcs = map plain_func m.funcs }

abbrev pub module_tree : PlainModule → ModuleTree
module_tree m = record { props = entries_tree m.props; attrs = entries_tree m.attrs; funcs = map func_tree m.funcs }
