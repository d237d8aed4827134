use Rattle.std.proofs.Common.{◌≡◌, drop, map}
use Rattle.plain_tree.specs.Ops.{blocks_in}
use Rattle.value_types.specs.Trees.{plain_block}
use Rattle.use_paths.specs.Blocks.{homes_from}
use Rattle.first_places.specs.Tables.{nothing_yet, table_in, with_firsts}
use Rattle.use_paths.proofs.homes.homes_of.Given as goal

abbrev pub invariant-loop-place : goal.invariant-loop-place
invariant-loop-place l =
    with_firsts (table_in l.homes) (homes_from l.place (blocks_in (map plain_block (drop l.place l.blocks))))
    ≡ with_firsts nothing_yet (homes_from 0 (blocks_in (map plain_block l.blocks)))
