use Rattle.std.proofs.Common.{◌≡◌, ◌≤◌, ◌+◌, ◌*◌, ◌++◌, length, map, reverse}
use Rattle.plain_tree.specs.Ops.{plain_op}
use Rattle.conversion_model.specs.Uses.{op_uses}
use Rattle.stand_ins.specs.Forests.{IsForest}
use Rattle.stand_ins.specs.Tables.{forest_of, stands_for}
use Rattle.tree_uses.specs.Edited.{plain_block, plain_region}
use Rattle.copy_uses.specs.Layered.{block_uses, region_uses}
use Rattle.tree_uses.specs.Rooms.{block_room, blocks_room, op_room, ops_room, region_room, regions_room}
use Rattle.copy_uses.proofs.tree.+op_uses.Given as goal

abbrev pub decreases-op_uses : goal.decreases-op_uses
decreases-op_uses l = 6 * op_room l.op

abbrev pub decreases-ops_uses : goal.decreases-ops_uses
decreases-ops_uses l = 6 * ops_room l.ops + 1

abbrev pub decreases-one_block : goal.decreases-one_block
decreases-one_block l = 6 * block_room l.block + 2

abbrev pub decreases-blocks_uses : goal.decreases-blocks_uses
decreases-blocks_uses l = 6 * blocks_room l.blocks + 3

abbrev pub decreases-one_region : goal.decreases-one_region
decreases-one_region l = 6 * region_room l.region + 4

abbrev pub decreases-regions_uses : goal.decreases-regions_uses
decreases-regions_uses l = 6 * regions_room l.regions + 5

-- what comes of those that are left, before what was made of the others
abbrev pub invariant-regions_uses-each : goal.invariant-regions_uses-each
invariant-regions_uses-each l =
    (regions_room l.left ≤ regions_room l.fn.regions) × IsForest (forest_of l.to) × (stands_for l.to ≡ stands_for l.fn.to)
    × (map (region_uses (stands_for l.fn.to)) (map plain_region l.left) ++ map plain_region (reverse l.done) ≡ map (region_uses (stands_for l.fn.to)) (map plain_region l.fn.regions))

abbrev pub decreases-regions_uses-each : goal.decreases-regions_uses-each
decreases-regions_uses-each l = length l.left

abbrev pub invariant-blocks_uses-each : goal.invariant-blocks_uses-each
invariant-blocks_uses-each l =
    (blocks_room l.left ≤ blocks_room l.fn.blocks) × IsForest (forest_of l.to) × (stands_for l.to ≡ stands_for l.fn.to)
    × (map (block_uses (stands_for l.fn.to)) (map plain_block l.left) ++ map plain_block (reverse l.done) ≡ map (block_uses (stands_for l.fn.to)) (map plain_block l.fn.blocks))

abbrev pub decreases-blocks_uses-each : goal.decreases-blocks_uses-each
decreases-blocks_uses-each l = length l.left

abbrev pub invariant-ops_uses-each : goal.invariant-ops_uses-each
invariant-ops_uses-each l =
    (ops_room l.left ≤ ops_room l.fn.ops) × IsForest (forest_of l.to) × (stands_for l.to ≡ stands_for l.fn.to)
    × (map (op_uses (stands_for l.fn.to)) (map plain_op l.left) ++ map plain_op (reverse l.done) ≡ map (op_uses (stands_for l.fn.to)) (map plain_op l.fn.ops))

abbrev pub decreases-ops_uses-each : goal.decreases-ops_uses-each
decreases-ops_uses-each l = length l.left
