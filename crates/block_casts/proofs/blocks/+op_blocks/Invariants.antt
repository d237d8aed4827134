use Rattle.std.proofs.Common.{◌≡◌, ◌≤◌, ◌+◌, ◌*◌, ◌++◌, length, map, reverse}
use Rattle.std.specs.Prelude.{true}
use Rattle.plain_tree.specs.Ops.{plain_op}
use Rattle.conversion_model.specs.Conversion.{op_blocks}
use Rattle.tree_uses.specs.Edited.{plain_block, plain_region}
use Rattle.tree_uses.specs.Rooms.{block_room, blocks_room, op_room, ops_room, region_room, regions_room}
use Rattle.new_numbers.specs.Tables.{Extends, numbering_of}
use Rattle.block_casts.specs.Changed.{Said, blocks_changed, region_changed}
use Rattle.block_casts.proofs.blocks.+op_blocks.Given as goal

abbrev pub decreases-op_blocks : goal.decreases-op_blocks
decreases-op_blocks l = 7 * op_room l.op

abbrev pub decreases-ops_of_block : goal.decreases-ops_of_block
decreases-ops_of_block l = 7 * ops_room l.ops + 1

abbrev pub decreases-later_block : goal.decreases-later_block
decreases-later_block l = 7 * block_room l.block + 2

abbrev pub decreases-first_block : goal.decreases-first_block
decreases-first_block l = 7 * block_room l.block + 2

abbrev pub decreases-one_block : goal.decreases-one_block
decreases-one_block l = 7 * block_room l.block + 3

abbrev pub decreases-blocks_of_region : goal.decreases-blocks_of_region
decreases-blocks_of_region l = 7 * blocks_room l.blocks + 4

abbrev pub decreases-one_region : goal.decreases-one_region
decreases-one_region l = 7 * region_room l.region + 5

abbrev pub decreases-regions_blocks : goal.decreases-regions_blocks
decreases-regions_blocks l = 7 * regions_room l.regions + 6

-- what was made of those in front, before what comes of those that are left, last first
abbrev pub invariant-regions_blocks-each : goal.invariant-regions_blocks-each
invariant-regions_blocks-each l =
    (regions_room l.left ≤ regions_room l.fn.regions) × Extends (numbering_of l.initial.numbers) (numbering_of l.numbers)
    × Said (numbering_of l.numbers) (λ n. map plain_region l.list ++ map (region_changed l.fn.bits n) (map plain_region (reverse l.left)) ≡ map (region_changed l.fn.bits n) (map plain_region l.fn.regions))

abbrev pub decreases-regions_blocks-each : goal.decreases-regions_blocks-each
decreases-regions_blocks-each l = length l.left

abbrev pub invariant-blocks_of_region-each : goal.invariant-blocks_of_region-each
invariant-blocks_of_region-each l =
    (blocks_room l.left ≤ blocks_room l.fn.blocks) × Extends (numbering_of l.initial.numbers) (numbering_of l.numbers)
    × Said (numbering_of l.numbers) (λ n. map plain_block l.list ++ blocks_changed l.fn.bits n l.is_first (map plain_block (reverse l.left)) ≡ blocks_changed l.fn.bits n true (map plain_block l.fn.blocks))

abbrev pub decreases-blocks_of_region-each : goal.decreases-blocks_of_region-each
decreases-blocks_of_region-each l = length l.left

abbrev pub invariant-ops_of_block-each : goal.invariant-ops_of_block-each
invariant-ops_of_block-each l =
    (ops_room l.left ≤ ops_room l.fn.ops) × Extends (numbering_of l.initial.numbers) (numbering_of l.numbers)
    × Said (numbering_of l.numbers) (λ n. map plain_op l.list ++ map (op_blocks l.fn.bits n) (map plain_op (reverse l.left)) ≡ map (op_blocks l.fn.bits n) (map plain_op l.fn.ops))

abbrev pub decreases-ops_of_block-each : goal.decreases-ops_of_block-each
decreases-ops_of_block-each l = length l.left
