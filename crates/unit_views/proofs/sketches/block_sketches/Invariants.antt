use Rattle.std.proofs.Common.{◌≡◌, map, take}
use Rattle.cut_code.specs.Sketches.{block_view}
use Rattle.value_types.specs.Trees.{plain_block}
use Rattle.unit_views.specs.Seen.{block_seen}
use Rattle.unit_views.proofs.sketches.block_sketches.Given as goal

abbrev pub invariant-each : goal.invariant-each
invariant-each l = map block_view l.sketches ≡ map block_seen (map plain_block (take l.block-index l.blocks))
