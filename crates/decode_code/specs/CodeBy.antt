-- Operations, blocks and regions as a run sees them, where types are looked up.
use Rattle.std.specs.Prelude.{ℕ, List, map, Option, unwrap_or}
use Rattle.tree_model.specs.declared.type_tree.TypeTree.{TypeTree}
use Rattle.tree_model.specs.declared.type_tree.TypeTree as type
use Rattle.tree_model.specs.declared.op_tree.OpTree.{OpTree, out-OpTree}
use Rattle.tree_model.specs.declared.op_tree.BlockTree.{BlockTree}
use Rattle.tree_model.specs.declared.op_tree.RegionTree.{RegionTree, out-RegionTree}
use Rattle.tree_model.specs.declared.op_tree.BlockTree.TheOpen.{OpTree-F}
use Rattle.tree_model.specs.declared.op_tree.BlockTree.TheFolds.{fold-OpTree, fold-BlockTree, fold-RegionTree}
use Rattle.operation_model.specs.Forms.{Form}
use Rattle.form_model.specs.Classes.{Seen, form_of}
use Rattle.form_model.specs.Codes.{Ops, OpsEnd, Op, Blocks, BlocksEnd, Block, Regions, RegionsEnd, Region}
use Rattle.form_model.specs.Decoding.{numbers_of, types_of, in_front, block_code, region_code, type_among, values_in}

-- the width of `index`, the types of values, and the type of one that is defined nowhere
pub record Reading : Type 0 where
  pub bits : ℕ
  pub types : ℕ → Option TypeTree
  pub other : TypeTree

-- what the form of an operation is told by
abbrev pub seen_at : {B O R : Type 0} → Reading → OpTree-F B O R → Seen
seen_at r o = record { bits = r.bits; props = o.props; operands = map (λ n. unwrap_or (r.types n) r.other) o.operands; results = types_of o.results }

-- the form of an operation
abbrev pub form_by : Reading → OpTree → Form
form_by r o = form_of (out-OpTree o).name (seen_at r (out-OpTree o))

abbrev pub op_by : Reading → OpTree-F (Blocks → Blocks) (Ops → Ops) (Regions → Regions) → Ops → Ops
op_by r o rest = Op (form_of o.name (seen_at r o)) (numbers_of o.results) o.operands o.successors (in_front o.regions RegionsEnd) rest

-- an operation of these parts, a block and a region, each in front of those behind it
unfoldable pub op_from : Form → List ℕ → List ℕ → List ℕ → List (Regions → Regions) → Ops → Ops
op_from form results operands successors regions rest = Op form results operands successors (in_front regions RegionsEnd) rest

unfoldable pub block_from : ℕ → List ℕ → List (Ops → Ops) → Blocks → Blocks
block_from label args ops more = Block label args (in_front ops OpsEnd) more

unfoldable pub region_from : List (Blocks → Blocks) → Regions → Regions
region_from blocks more = Region (in_front blocks BlocksEnd) more

-- each of a tree in front of those behind it
unfoldable pub code_by : Reading → OpTree → Ops → Ops
code_by r = fold-OpTree (Blocks → Blocks) (Ops → Ops) (Regions → Regions) block_code (op_by r) region_code

unfoldable pub block_by : Reading → BlockTree → Blocks → Blocks
block_by r = fold-BlockTree (Blocks → Blocks) (Ops → Ops) (Regions → Regions) block_code (op_by r) region_code

unfoldable pub region_by : Reading → RegionTree → Regions → Regions
region_by r = fold-RegionTree (Blocks → Blocks) (Ops → Ops) (Regions → Regions) block_code (op_by r) region_code

-- how the definitions read the types of the values of a function
abbrev pub read : ℕ → OpTree → Reading
read bits o = record { bits = bits; types = type_among (values_in o); other = type.Void }

-- the blocks of a region of a function
abbrev pub region_blocks : ℕ → OpTree → RegionTree → Blocks
region_blocks bits o t = in_front (map (block_by (read bits o)) (out-RegionTree t).blocks) BlocksEnd
