-- Sizes in the layers of a tree.
use Rattle.std.proofs.Common.{◌≡◌, ℕ, ◌+◌, ◌-◌, List, [], ◌∷◌, ◌++◌, length, map, set, refl, sym, ap, ◌∙◌, arith}
use Rattle.std.proofs.lemmas.Grind.{common_steps}
use Rattle.std.proofs.lemmas.List.{append_assoc, length-append}
use Rattle.tree_model.specs.declared.op_tree.OpTree.{OpTree, out-OpTree}
use Rattle.plain_tree.specs.Ops.{Op, op, Ops, end_of_ops, more_ops, Regions, end_of_regions, region, Blocks, end_of_blocks, block, plain_op, regions_in}
use Rattle.conversion_model.specs.Items.{op_size, ops_size, regions_size, blocks_size}
use Rattle.unit_writer.specs.Pages.{op_from, region_plain}
use Rattle.unit_writer.specs.Sizes.{blocks_sizes, op_sizes, ops_sizes, regions_sizes}
use Rattle.unit_writer.proofs.Layers.{op_plain_at, block_ops_at, region_plain_at}

mutual
  pub op_counted : (o : Op) → length (op_sizes o) ≡ op_size o
  op_counted (op k results operands regions successors) = let e : length (regions_sizes regions) ≡ regions_size regions = regions_counted regions in omega (arith, e)

  pub ops_counted : (os : Ops) → length (ops_sizes os) ≡ ops_size os
  ops_counted end_of_ops = refl
  ops_counted (more_ops o os) = length-append (op_sizes o) (ops_sizes os) ∙ omega (arith, op_counted o, ops_counted os)

  pub regions_counted : (rs : Regions) → length (regions_sizes rs) ≡ regions_size rs
  regions_counted end_of_regions = refl
  regions_counted (region blocks more) = length-append (blocks_sizes blocks) (regions_sizes more) ∙ omega (arith, blocks_counted blocks, regions_counted more)

  pub blocks_counted : (bs : Blocks) → length (blocks_sizes bs) ≡ blocks_size bs
  blocks_counted end_of_blocks = refl
  blocks_counted (block label args ops more) = length-append (ops_sizes ops) (blocks_sizes more) ∙ omega (arith, ops_counted ops, blocks_counted more)

-- the sizes of an operation are its own and those of its regions
pub op_sizes_at : (o : OpTree) → op_sizes (plain_op o) ≡ (regions_size (regions_in (map region_plain (out-OpTree o).regions)) + 1) ∷ regions_sizes (regions_in (map region_plain (out-OpTree o).regions))
unfolding op_from
op_sizes_at o = ap op_sizes (op_plain_at o)

set_middle : (xs ys : List ℕ) (a b : ℕ) → set (xs ++ a ∷ ys) (length xs) b ≡ xs ++ b ∷ ys
set_middle [] ys a b = refl
set_middle (x ∷ xs) ys a b = ap (λ zs. x ∷ zs) (set_middle xs ys a b)

-- behind the regions the first place gets the size
pub size_put : (xs mid items : List ℕ) (rs : Regions) (place size : ℕ) (o : Op) → place ≡ length xs → mid ≡ (xs ++ 0 ∷ []) ++ regions_sizes rs → size ≡ length mid - place
    → items ≡ set mid place size → op_sizes o ≡ (regions_size rs + 1) ∷ regions_sizes rs → items ≡ xs ++ op_sizes o
size_put xs mid items rs place size o here middle is put sizes =
    let joined : mid ≡ xs ++ 0 ∷ regions_sizes rs = middle ∙ append_assoc xs (0 ∷ []) (regions_sizes rs) in
    let count : length mid ≡ length xs + (1 + length (regions_sizes rs)) = ap length joined ∙ length-append xs (0 ∷ regions_sizes rs) ∙ omega arith in
    let value : size ≡ regions_size rs + 1 = omega (arith, here, is, count, regions_counted rs) in
    put ∙ ap (λ k. set mid k size) here ∙ ap (λ ys. set ys (length xs) size) joined ∙ set_middle xs (regions_sizes rs) 0 size ∙ ap (λ n. xs ++ n ∷ regions_sizes rs) value ∙ ap (λ ys. xs ++ ys) (sym sizes)

pub ruleset layers = (common_steps, block_ops_at, region_plain_at)
