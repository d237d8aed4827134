-- Trees with other operands, and without some of the operations in them.
use Rattle.std.specs.Prelude.{ℕ, Bool, List, [], ◌∷◌, if◌then◌else◌}
use Rattle.tree_model.specs.declared.op_tree.BlockTree.{BlockTree}
use Rattle.tree_model.specs.declared.op_tree.RegionTree.{RegionTree}
use Rattle.tree_model.specs.declared.op_tree.BlockTree.TheFolds.{fold-BlockTree, fold-RegionTree}
use Rattle.plain_tree.specs.Attrs.{Entries}
use Rattle.plain_tree.specs.Ops.{Op, op, Blocks, PlainBlock, Values, block_at, op_at, region_at, regions_in}
use Rattle.conversion_model.specs.Uses.{op_uses, op_without, ops_uses, ops_without, blocks_uses, blocks_without}

-- the plain form of a block, and of a region
unfoldable pub plain_block : BlockTree → PlainBlock
plain_block = fold-BlockTree PlainBlock Op Blocks block_at op_at region_at

unfoldable pub plain_region : RegionTree → Blocks
plain_region = fold-RegionTree PlainBlock Op Blocks block_at op_at region_at

-- the operation where each number stands for another, without those in it for which the test holds
abbrev pub edited : (ℕ → ℕ) → (Op → Bool) → Op → Op
edited to test o = op_uses to (op_without test o)

-- those of the operations for which the test doesn't hold, each of them edited
abbrev pub kept : (ℕ → ℕ) → (Op → Bool) → List Op → List Op
kept to test [] = []
kept to test (o ∷ os) = if test o then kept to test os else edited to test o ∷ kept to test os

-- a block, and a region
unfoldable pub block_edited : (ℕ → ℕ) → (Op → Bool) → PlainBlock → PlainBlock
block_edited to test b = record { label = b.label; args = b.args; ops = ops_uses to (ops_without test b.ops) }

unfoldable pub region_edited : (ℕ → ℕ) → (Op → Bool) → Blocks → Blocks
region_edited to test r = blocks_uses to (blocks_without test r)

-- an operation of these parts
unfoldable pub op_from : List ℕ → Entries → Entries → Values → List ℕ → List Blocks → List ℕ → Op
op_from name props attrs results operands regions successors = op (record { name = name; props = props; attrs = attrs }) results operands (regions_in regions) successors
