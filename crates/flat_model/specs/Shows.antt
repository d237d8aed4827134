-- Which tree a function in nodes shows.
use Rattle.std.specs.Prelude.{◌≡◌, ℕ, ◌<◌, List, [], ◌∷◌, length}
use Rattle.std.specs.List.{AllZip}
use Rattle.key_model.specs.declared.handle.Handle.{Handle}
use Rattle.key_model.specs.declared.key.Key.{Key}
use Rattle.key_model.specs.declared.key.Key.TheVariants.{OfType, OfAttr}
use Rattle.tree_model.specs.declared.type_tree.TypeTree.{TypeTree}
use Rattle.tree_model.specs.declared.attr_tree.AttrTree.{AttrTree}
use Rattle.tree_model.specs.declared.op_tree.OpTree.{OpTree, out-OpTree}
use Rattle.tree_model.specs.declared.op_tree.BlockTree.{BlockTree, out-BlockTree}
use Rattle.tree_model.specs.declared.op_tree.RegionTree.{RegionTree, out-RegionTree}
use Rattle.tree_model.specs.declared.op_tree.FuncTree.{FuncTree}
use Rattle.flat_model.specs.declared.nodes.NamedAttr.{NamedAttr}
use Rattle.flat_model.specs.declared.nodes.OpNode.{OpNode}
use Rattle.flat_model.specs.Flat.{BlockNode, Flat, op_at, block_at, blocks_at, type_at}

-- Below, `holds` says which handle has which key, V which value of the function stands for which number of the tree,
-- and L which block for which label.

-- a value and its type
pub record ValueShows (holds : Handle → Key → Type 0) (V : ℕ → ℕ → Type 0) (f : Flat) (value : ℕ) (tree : ℕ × TypeTree) : Type 0 where
  pub inside : value < length f.types
  pub number : V value tree.0
  pub type : holds (type_at f value) (OfType tree.1)

-- an entry of a dictionary
pub record EntryShows (holds : Handle → Key → Type 0) (entry : NamedAttr) (tree : List ℕ × AttrTree) : Type 0 where
  pub name : entry.name ≡ tree.0
  pub value : holds entry.value (OfAttr tree.1)

-- an operation without what its regions hold
pub record FrontShows (holds : Handle → Key → Type 0) (V L : ℕ → ℕ → Type 0) (f : Flat) (node : OpNode) (tree : OpTree) : Type 0 where
  pub name : node.name ≡ (out-OpTree tree).name
  pub results : AllZip (ValueShows holds V f) node.results (out-OpTree tree).results
  pub operands : AllZip V node.operands (out-OpTree tree).operands
  pub props : AllZip (EntryShows holds) node.props (out-OpTree tree).props
  pub attrs : AllZip (EntryShows holds) node.attrs (out-OpTree tree).attrs
  pub successors : AllZip L node.successors (out-OpTree tree).successors

-- a block without its operations
pub record BlockFrontShows (holds : Handle → Key → Type 0) (V L : ℕ → ℕ → Type 0) (f : Flat) (block : ℕ) (tree : BlockTree) : Type 0 where
  pub inside : block < length f.blocks
  pub label : L block (out-BlockTree tree).label
  pub args : AllZip (ValueShows holds V f) (block_at f block).args (out-BlockTree tree).args

mutual
  -- an operation with all that it holds
  pub data OpShows (holds : Handle → Key → Type 0) (V L : ℕ → ℕ → Type 0) (f : Flat) : ℕ → OpTree → Type 0 where
    op_shown : {op : ℕ} {tree : OpTree} → op < length f.ops → FrontShows holds V L f (op_at f op) tree
        → RegionsShow holds V L f (op_at f op).regions (out-OpTree tree).regions → OpShows holds V L f op tree

  -- operations in order
  pub data OpsShow (holds : Handle → Key → Type 0) (V L : ℕ → ℕ → Type 0) (f : Flat) : List ℕ → List OpTree → Type 0 where
    ops_shown : OpsShow holds V L f [] []
    next_op_shown : {op : ℕ} {ops : List ℕ} {tree : OpTree} {trees : List OpTree}
        → OpShows holds V L f op tree → OpsShow holds V L f ops trees → OpsShow holds V L f (op ∷ ops) (tree ∷ trees)

  -- regions in order
  pub data RegionsShow (holds : Handle → Key → Type 0) (V L : ℕ → ℕ → Type 0) (f : Flat) : List ℕ → List RegionTree → Type 0 where
    regions_shown : RegionsShow holds V L f [] []
    next_region_shown : {region : ℕ} {regions : List ℕ} {tree : RegionTree} {trees : List RegionTree}
        → region < length f.regions → BlocksShow holds V L f (blocks_at f region) (out-RegionTree tree).blocks
        → RegionsShow holds V L f regions trees → RegionsShow holds V L f (region ∷ regions) (tree ∷ trees)

  -- blocks in order
  pub data BlocksShow (holds : Handle → Key → Type 0) (V L : ℕ → ℕ → Type 0) (f : Flat) : List ℕ → List BlockTree → Type 0 where
    blocks_shown : BlocksShow holds V L f [] []
    next_block_shown : {block : ℕ} {blocks : List ℕ} {tree : BlockTree} {trees : List BlockTree}
        → BlockFrontShows holds V L f block tree → OpsShow holds V L f (block_at f block).ops (out-BlockTree tree).ops
        → BlocksShow holds V L f blocks trees → BlocksShow holds V L f (block ∷ blocks) (tree ∷ trees)

-- a value's number is the tree's number, and a block's is its label
abbrev pub Itself : ℕ → ℕ → Type 0
Itself m n = m ≡ n

-- the function shows the tree: it holds the same with the same numbers, and its handles have the types and attributes
abbrev pub FuncShows : (Handle → Key → Type 0) → Flat → FuncTree → Type 0
FuncShows holds f tree = OpShows holds Itself Itself f f.root tree.op
