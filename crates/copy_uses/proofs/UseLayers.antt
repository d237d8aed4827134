-- Each layer of a tree with other operands.
use Rattle.std.proofs.Common.{◌≡◌, ℕ, List, [], ◌∷◌, map, refl, ap, ◌∙◌}
use Rattle.std.proofs.lemmas.Grind.{common_steps}
use Rattle.tree_model.specs.declared.op_tree.OpTree.{OpTree, out-OpTree}
use Rattle.tree_model.specs.declared.op_tree.BlockTree.{BlockTree, out-BlockTree, fold_out-BlockTree}
use Rattle.tree_model.specs.declared.op_tree.RegionTree.{RegionTree, out-RegionTree, fold_out-RegionTree}
use Rattle.plain_tree.specs.Attrs.{plain_entries}
use Rattle.plain_tree.specs.Ops.{Op, op, more_ops, region, Blocks, block, PlainBlock, block_at, op_at, region_at, blocks_in, ops_in, regions_in, plain_op, plain_values}
use Rattle.conversion_model.specs.Uses.{op_uses, ops_uses, regions_uses, blocks_uses}
use Rattle.tree_uses.specs.Edited.{op_from, plain_block, plain_region}
use Rattle.tree_uses.proofs.Layers.{op_plain_at}
use Rattle.copy_uses.specs.Layered.{block_uses, region_uses}

uses_in_regions : (to : ℕ → ℕ) (rs : List Blocks) → regions_uses to (regions_in rs) ≡ regions_in (map (region_uses to) rs)
unfolding region_uses
uses_in_regions to [] = refl
uses_in_regions to (r ∷ rs) = ap (region (blocks_uses to r)) (uses_in_regions to rs)

uses_in_blocks : (to : ℕ → ℕ) (bs : List PlainBlock) → blocks_uses to (blocks_in bs) ≡ blocks_in (map (block_uses to) bs)
unfolding block_uses
uses_in_blocks to [] = refl
uses_in_blocks to (b ∷ bs) = ap (block b.label b.args (ops_uses to b.ops)) (uses_in_blocks to bs)

uses_in_ops : (to : ℕ → ℕ) (os : List Op) → ops_uses to (ops_in os) ≡ ops_in (map (op_uses to) os)
uses_in_ops to [] = refl
uses_in_ops to (o ∷ os) = ap (more_ops (op_uses to o)) (uses_in_ops to os)

pub op_uses_at : (to : ℕ → ℕ) (o : OpTree) → op_uses to (plain_op o)
    ≡ op_from (out-OpTree o).name (plain_entries (out-OpTree o).props) (plain_entries (out-OpTree o).attrs) (plain_values (out-OpTree o).results) (map to (out-OpTree o).operands) (map (region_uses to) (map plain_region (out-OpTree o).regions)) (out-OpTree o).successors
unfolding op_from
op_uses_at to o =
    ap (op_uses to) (op_plain_at o)
    ∙ ap (λ rs. op (record { name = (out-OpTree o).name; props = plain_entries (out-OpTree o).props; attrs = plain_entries (out-OpTree o).attrs }) (plain_values (out-OpTree o).results) (map to (out-OpTree o).operands) rs (out-OpTree o).successors)
    (uses_in_regions to (map plain_region (out-OpTree o).regions))

pub region_uses_at : (to : ℕ → ℕ) (r : RegionTree) → region_uses to (plain_region r) ≡ blocks_in (map (block_uses to) (map plain_block (out-RegionTree r).blocks))
unfolding plain_block plain_region region_uses
region_uses_at to r =
    ap (blocks_uses to) (fold_out-RegionTree PlainBlock Op Blocks block_at op_at region_at r)
    ∙ uses_in_blocks to (map plain_block (out-RegionTree r).blocks)

pub block_uses_at : (to : ℕ → ℕ) (b : BlockTree) → block_uses to (plain_block b) ≡ record { label = (out-BlockTree b).label; args = plain_values (out-BlockTree b).args; ops = ops_in (map (op_uses to) (map plain_op (out-BlockTree b).ops)) }
unfolding plain_op plain_block block_uses
block_uses_at to b =
    ap (λ (x : PlainBlock). record { label = x.label; args = x.args; ops = ops_uses to x.ops }) (fold_out-BlockTree PlainBlock Op Blocks block_at op_at region_at b)
    ∙ ap (λ os. record { label = (out-BlockTree b).label; args = plain_values (out-BlockTree b).args; ops = os }) (uses_in_ops to (map plain_op (out-BlockTree b).ops))

pub ruleset layers = (common_steps, op_uses_at, region_uses_at, block_uses_at)
