use Rattle.std.proofs.Common.{◌≡◌, ◌++◌, drop, length, map}
use Rattle.plain_tree.specs.Ops.{blocks_in}
use Rattle.value_types.specs.Trees.{plain_block}
use Rattle.block_search.specs.Reach.{rows}
use Rattle.use_paths.specs.Blocks.{graph_by}
use Rattle.first_places.specs.Tables.{place_by, table_in}
use Rattle.use_paths.proofs.region.edges_of.Given as goal

abbrev pub invariant-loop-block : goal.invariant-loop-block
invariant-loop-block l =
    rows l.edges.items ++ graph_by (place_by (table_in l.places) (length l.blocks)) (blocks_in (map plain_block (drop l.block-index l.blocks)))
    ≡ graph_by (place_by (table_in l.places) (length l.blocks)) (blocks_in (map plain_block l.blocks))
