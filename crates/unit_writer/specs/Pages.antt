-- Pages: blocks that are being written, and the blocks that come of them with what follows.
use Rattle.std.specs.Prelude.{ℕ, List, [], ◌∷◌, ◌++◌, map}
use Rattle.tree_model.specs.declared.op_tree.BlockTree.{BlockTree}
use Rattle.tree_model.specs.declared.op_tree.RegionTree.{RegionTree}
use Rattle.tree_model.specs.declared.op_tree.BlockTree.TheFolds.{fold-BlockTree, fold-RegionTree}
use Rattle.plain_tree.specs.Attrs.{Entries}
use Rattle.plain_tree.specs.Ops.{Op, op, Ops, more_ops, Regions, region, Blocks, block, PlainBlock, Values, block_at, op_at, region_at, ops_in, regions_in, plain_op, plain_values}
use Rattle.conversion_model.specs.Items.{Text}
use Rattle.unit_writer.specs.declared.page.Page.{Page}

-- the plain form of a block, and of a region
unfoldable pub block_plain : BlockTree → PlainBlock
block_plain = fold-BlockTree PlainBlock Op Blocks block_at op_at region_at

unfoldable pub region_plain : RegionTree → Blocks
region_plain = fold-RegionTree PlainBlock Op Blocks block_at op_at region_at

-- an operation of these parts
unfoldable pub op_from : List ℕ → Entries → Entries → Values → List ℕ → List Blocks → List ℕ → Op
op_from name props attrs results operands regions successors = op (record { name = name; props = props; attrs = attrs }) results operands (regions_in regions) successors

-- parts in front of others
abbrev pub ops_before : List Op → Ops → Ops
ops_before [] more = more
ops_before (o ∷ os) more = more_ops o (ops_before os more)

abbrev pub blocks_before : List PlainBlock → Blocks → Blocks
blocks_before [] more = more
blocks_before (b ∷ bs) more = block b.label b.args b.ops (blocks_before bs more)

abbrev pub regions_before : List Blocks → Regions → Regions
regions_before [] more = more
regions_before (r ∷ rs) more = region r (regions_before rs more)

-- a page: blocks, and one that is open, with its operations so far
pub record PageView : Type 0 where
  pub blocks : List PlainBlock
  pub label : ℕ
  pub args : Values
  pub ops : List Op

abbrev pub page_view : Page → PageView
page_view p = record { blocks = map block_plain p.blocks; label = p.label; args = plain_values p.args; ops = map plain_op p.ops }

abbrev pub begun : ℕ → Values → PageView
begun label args = record { blocks = []; label = label; args = args; ops = [] }

abbrev pub with_op : PageView → Op → PageView
with_op p o = record { blocks = p.blocks; label = p.label; args = p.args; ops = p.ops ++ o ∷ [] }

-- its blocks, when the open one ends
abbrev pub ended : PageView → List PlainBlock
ended p = p.blocks ++ record { label = p.label; args = p.args; ops = ops_in p.ops } ∷ []

abbrev pub with_block : PageView → ℕ → Values → PageView
with_block p label args = record { blocks = ended p; label = label; args = args; ops = [] }

-- the blocks that come of a page with a text behind it
abbrev pub page_blocks : PageView → Text → Blocks
page_blocks p t = blocks_before p.blocks (block p.label p.args (ops_before p.ops t.ops) t.blocks)
