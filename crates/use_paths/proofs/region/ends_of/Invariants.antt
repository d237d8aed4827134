use Rattle.std.proofs.Common.{◌≡◌, ◌++◌, drop, map}
use Rattle.plain_tree.specs.Ops.{blocks_in}
use Rattle.value_types.specs.Trees.{plain_block}
use Rattle.use_paths.specs.Blocks.{ends_in}
use Rattle.use_paths.proofs.region.ends_of.Given as goal

abbrev pub invariant-loop-block : goal.invariant-loop-block
invariant-loop-block l =
    l.ends.items ++ ends_in (blocks_in (map plain_block (drop l.block-index l.blocks))) ≡ ends_in (blocks_in (map plain_block l.blocks))
