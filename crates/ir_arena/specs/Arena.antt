-- A function as contracts see it.
use Rattle.std.specs.Prelude.{ℕ, List, map}
use Rattle.key_model.specs.declared.handle.Handle.{Handle}
use Rattle.flat_model.specs.declared.nodes.OpNode.{OpNode}
use Rattle.flat_model.specs.Flat.{Flat, BlockNode}
use Rattle.ir_arena.specs.declared.cells.BlockCell.{BlockCell}
use Rattle.ir_arena.specs.declared.cells.RegionCell.{RegionCell}

-- the nodes, and how many operations the list of each block has room for
pub record Arena : Type 0 where
  pub flat : Flat
  pub rooms : List ℕ

abbrev pub block_node : BlockCell → BlockNode
block_node c = record { args = c.args.items; ops = c.ops.list }

abbrev pub region_blocks : RegionCell → List ℕ
region_blocks c = c.blocks.items

abbrev pub flat_of : List OpNode → List BlockCell → List RegionCell → List Handle → ℕ → Flat
flat_of ops blocks regions types root = record { ops = ops; blocks = map block_node blocks; regions = map region_blocks regions; types = types; root = root }

abbrev pub rooms_of : List BlockCell → List ℕ
rooms_of blocks = map (λ c. c.ops.room) blocks
