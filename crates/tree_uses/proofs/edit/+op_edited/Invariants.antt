use Rattle.std.proofs.Common.{◌≡◌, ◌≤◌, ◌+◌, ◌*◌, ◌++◌, length, map, reverse}
use Rattle.plain_tree.specs.Ops.{plain_op}
use Rattle.tree_uses.specs.Edited.{block_edited, kept, plain_block, plain_region, region_edited}
use Rattle.tree_uses.specs.Rooms.{block_room, blocks_room, op_room, ops_room, region_room, regions_room}
use Rattle.stand_ins.specs.Tables.{stands_for}
use Rattle.tree_uses.proofs.edit.+op_edited.Given as goal

abbrev pub decreases-op_edited : goal.decreases-op_edited
decreases-op_edited g l = 7 * op_room l.op

abbrev pub decreases-put_edited : goal.decreases-put_edited
decreases-put_edited g l = 7 * op_room l.op + 1

abbrev pub decreases-ops_edited : goal.decreases-ops_edited
decreases-ops_edited g l = 7 * ops_room l.ops + 2

abbrev pub decreases-one_block : goal.decreases-one_block
decreases-one_block g l = 7 * block_room l.block + 3

abbrev pub decreases-blocks_edited : goal.decreases-blocks_edited
decreases-blocks_edited g l = 7 * blocks_room l.blocks + 4

abbrev pub decreases-one_region : goal.decreases-one_region
decreases-one_region g l = 7 * region_room l.region + 5

abbrev pub decreases-regions_edited : goal.decreases-regions_edited
decreases-regions_edited g l = 7 * regions_room l.regions + 6

-- what comes of those that are left, before what was made of the others
abbrev pub invariant-regions_edited-each : goal.invariant-regions_edited-each
invariant-regions_edited-each g l =
    (regions_room l.left ≤ regions_room l.fn.regions)
    × (map (region_edited (stands_for l.to) (g.T.Omits.test l.test)) (map plain_region l.left) ++ map plain_region (reverse l.done) ≡ map (region_edited (stands_for l.to) (g.T.Omits.test l.test)) (map plain_region l.fn.regions))

abbrev pub decreases-regions_edited-each : goal.decreases-regions_edited-each
decreases-regions_edited-each g l = length l.left

abbrev pub invariant-blocks_edited-each : goal.invariant-blocks_edited-each
invariant-blocks_edited-each g l =
    (blocks_room l.left ≤ blocks_room l.fn.blocks)
    × (map (block_edited (stands_for l.to) (g.T.Omits.test l.test)) (map plain_block l.left) ++ map plain_block (reverse l.done) ≡ map (block_edited (stands_for l.to) (g.T.Omits.test l.test)) (map plain_block l.fn.blocks))

abbrev pub decreases-blocks_edited-each : goal.decreases-blocks_edited-each
decreases-blocks_edited-each g l = length l.left

abbrev pub invariant-ops_edited-each : goal.invariant-ops_edited-each
invariant-ops_edited-each g l =
    (ops_room l.left ≤ ops_room l.fn.ops)
    × (kept (stands_for l.to) (g.T.Omits.test l.test) (map plain_op l.left) ++ map plain_op (reverse l.done) ≡ kept (stands_for l.to) (g.T.Omits.test l.test) (map plain_op l.fn.ops))

abbrev pub decreases-ops_edited-each : goal.decreases-ops_edited-each
decreases-ops_edited-each g l = length l.left
