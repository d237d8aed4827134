-- Each layer of a tree.
use Rattle.std.proofs.Common.{◌≡◌, ◌&&◌, List, [], ◌∷◌, map, refl, ap, ◌∙◌}
use Rattle.std.specs.List.{list_all}
use Rattle.std.proofs.lemmas.Grind.{common_steps}
use Rattle.tree_model.specs.declared.op_tree.OpTree.{OpTree, out-OpTree, fold_out-OpTree}
use Rattle.tree_model.specs.declared.op_tree.BlockTree.{BlockTree, out-BlockTree, fold_out-BlockTree}
use Rattle.tree_model.specs.declared.op_tree.RegionTree.{RegionTree, out-RegionTree, fold_out-RegionTree}
use Rattle.tree_model.specs.declared.op_tree.FuncTree.{FuncTree}
use Rattle.plain_tree.specs.Ops.{Op, Blocks, PlainBlock, block_at, op_at, region_at, blocks_in, ops_in, regions_in, plain_func, plain_op}
use Rattle.llvm_only.specs.Llvm.{is_llvm, op_llvm, ops_llvm, regions_llvm, blocks_llvm}
use Rattle.llvm_only.specs.Trees.{block_llvm, block_plain, region_llvm, region_plain}

in_regions : (rs : List RegionTree) → regions_llvm (regions_in (map region_plain rs)) ≡ list_all region_llvm rs
in_regions [] = refl
in_regions (r ∷ rs) = ap (λ b. region_llvm r && b) (in_regions rs)

in_blocks : (bs : List BlockTree) → blocks_llvm (blocks_in (map block_plain bs)) ≡ list_all block_llvm bs
in_blocks [] = refl
in_blocks (b ∷ bs) = ap (λ x. block_llvm b && x) (in_blocks bs)

in_ops : (os : List OpTree) → ops_llvm (ops_in (map plain_op os)) ≡ list_all (λ o. op_llvm (plain_op o)) os
in_ops [] = refl
in_ops (o ∷ os) = ap (λ b. op_llvm (plain_op o) && b) (in_ops os)

pub op_llvm_at : (o : OpTree) → op_llvm (plain_op o) ≡ (is_llvm (out-OpTree o).name && list_all region_llvm (out-OpTree o).regions)
unfolding plain_op region_plain
op_llvm_at o =
    ap op_llvm (fold_out-OpTree PlainBlock Op Blocks block_at op_at region_at o)
    ∙ ap (λ b. is_llvm (out-OpTree o).name && b) (in_regions (out-OpTree o).regions)

pub region_llvm_at : (r : RegionTree) → region_llvm r ≡ list_all block_llvm (out-RegionTree r).blocks
unfolding block_plain region_plain
region_llvm_at r = ap blocks_llvm (fold_out-RegionTree PlainBlock Op Blocks block_at op_at region_at r) ∙ in_blocks (out-RegionTree r).blocks

pub block_llvm_at : (b : BlockTree) → block_llvm b ≡ list_all (λ o. op_llvm (plain_op o)) (out-BlockTree b).ops
unfolding plain_op block_plain
block_llvm_at b =
    ap (λ (p : PlainBlock). ops_llvm p.ops) (fold_out-BlockTree PlainBlock Op Blocks block_at op_at region_at b) ∙ in_ops (out-BlockTree b).ops

pub funcs_llvm_are : (fs : List FuncTree) → list_all (λ f. op_llvm (plain_op f.op)) fs ≡ list_all op_llvm (map plain_func fs)
funcs_llvm_are [] = refl
funcs_llvm_are (f ∷ fs) = ap (λ b. op_llvm (plain_op f.op) && b) (funcs_llvm_are fs)

pub ruleset layers = (common_steps, op_llvm_at, region_llvm_at, block_llvm_at, funcs_llvm_are)
