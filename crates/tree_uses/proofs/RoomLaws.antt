-- What is in a part is what is in its parts.
use Rattle.std.proofs.Common.{◌≡◌, ◌+◌, List, [], ◌∷◌, ◌++◌, reverse, refl, ap, ◌∙◌, arith}
use Rattle.std.proofs.lemmas.List.{reverse-append}
use Rattle.tree_model.specs.declared.op_tree.OpTree.{OpTree, out-OpTree}
use Rattle.tree_model.specs.declared.op_tree.BlockTree.{BlockTree, out-BlockTree, fold_out-BlockTree}
use Rattle.tree_model.specs.declared.op_tree.RegionTree.{RegionTree, out-RegionTree, fold_out-RegionTree}
use Rattle.plain_tree.specs.Ops.{Op, Blocks, PlainBlock, block_at, op_at, region_at, plain_op}
use Rattle.conversion_model.specs.Items.{blocks_size, op_size, ops_size}
use Rattle.tree_uses.specs.Edited.{op_from, plain_block, plain_region}
use Rattle.tree_uses.proofs.Layers.{op_plain_at}
use Rattle.tree_uses.specs.Rooms.{block_room, blocks_room, op_room, ops_room, region_room, regions_room}

pub op_parts : (o : OpTree) → op_room o ≡ regions_room (out-OpTree o).regions + 1
unfolding op_from op_room regions_room
op_parts o = ap op_size (op_plain_at o)

pub region_parts : (r : RegionTree) → region_room r ≡ blocks_room (out-RegionTree r).blocks
unfolding plain_block plain_region region_room blocks_room
region_parts r = ap blocks_size (fold_out-RegionTree PlainBlock Op Blocks block_at op_at region_at r)

pub block_parts : (b : BlockTree) → block_room b ≡ ops_room (out-BlockTree b).ops
unfolding plain_op plain_block block_room ops_room
block_parts b = ap (λ (x : PlainBlock). ops_size x.ops) (fold_out-BlockTree PlainBlock Op Blocks block_at op_at region_at b)

pub ops_last : (os : List OpTree) (o : OpTree) → ops_room (os ++ o ∷ []) ≡ ops_room os + op_room o
unfolding op_room ops_room
ops_last [] o = omega arith
ops_last (p ∷ os) o = omega (arith, ops_last os o)

pub regions_last : (rs : List RegionTree) (r : RegionTree) → regions_room (rs ++ r ∷ []) ≡ regions_room rs + region_room r
unfolding region_room regions_room
regions_last [] r = omega arith
regions_last (p ∷ rs) r = omega (arith, regions_last rs r)

pub blocks_last : (bs : List BlockTree) (b : BlockTree) → blocks_room (bs ++ b ∷ []) ≡ blocks_room bs + block_room b
unfolding block_room blocks_room
blocks_last [] b = omega arith
blocks_last (p ∷ bs) b = omega (arith, blocks_last bs b)

pub ops_turned : (os : List OpTree) → ops_room (reverse os) ≡ ops_room os
unfolding op_room ops_room
ops_turned [] = refl
ops_turned (o ∷ os) = ap ops_room (reverse-append (o ∷ []) os) ∙ omega (arith, ops_last (reverse os) o, ops_turned os)

pub regions_turned : (rs : List RegionTree) → regions_room (reverse rs) ≡ regions_room rs
unfolding region_room regions_room
regions_turned [] = refl
regions_turned (r ∷ rs) = ap regions_room (reverse-append (r ∷ []) rs) ∙ omega (arith, regions_last (reverse rs) r, regions_turned rs)

pub blocks_turned : (bs : List BlockTree) → blocks_room (reverse bs) ≡ blocks_room bs
unfolding block_room blocks_room
blocks_turned [] = refl
blocks_turned (b ∷ bs) = ap blocks_room (reverse-append (b ∷ []) bs) ∙ omega (arith, blocks_last (reverse bs) b, blocks_turned bs)

pub ruleset rooms = (op_parts, region_parts, block_parts, ops_last, regions_last, blocks_last, ops_turned, regions_turned, blocks_turned)
