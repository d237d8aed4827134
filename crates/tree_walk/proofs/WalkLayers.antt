-- Each layer of a walk, and the numbered operations.
use Rattle.std.proofs.Common.{◌≡◌, ℕ, ◌+◌, List, [], ◌∷◌, ◌++◌, map, refl, sym, ap, ◌∙◌}
use Rattle.std.specs.Prelude.{flat_map}
use Rattle.std.proofs.lemmas.Grind.{common_steps}
use Rattle.std.proofs.lemmas.List.{append_assoc}
use Rattle.tree_model.specs.declared.op_tree.OpTree.{OpTree, out-OpTree, fold_out-OpTree}
use Rattle.tree_model.specs.declared.op_tree.BlockTree.{BlockTree, out-BlockTree, fold_out-BlockTree}
use Rattle.tree_model.specs.declared.op_tree.RegionTree.{RegionTree, out-RegionTree, fold_out-RegionTree}
use Rattle.plain_tree.specs.Attrs.{plain_entries}
use Rattle.plain_tree.specs.Ops.{Op, op, Ops, end_of_ops, more_ops, Regions, end_of_regions, region, Blocks, end_of_blocks, block, PlainBlock, block_at, op_at, region_at, blocks_in, ops_in, regions_in, plain_op, plain_values}
use Rattle.conversion_model.specs.Items.{op_size, ops_size, blocks_size}
use Rattle.conversion_model.specs.Uses.{operations, op_listed, ops_listed, regions_listed, blocks_listed}
use Rattle.tree_walk.specs.Walks.{block_list, block_plain, op_list, ops_list, region_list, region_plain, regions_list}

in_regions : (rs : List Blocks) → regions_list (regions_in rs) ≡ flat_map region_list rs
in_regions [] = refl
in_regions (r ∷ rs) = ap (λ xs. region_list r ++ xs) (in_regions rs)

in_blocks : (bs : List PlainBlock) → region_list (blocks_in bs) ≡ flat_map block_list bs
in_blocks [] = refl
in_blocks (b ∷ bs) = ap (λ xs. ops_list b.ops ++ xs) (in_blocks bs)

in_ops : (os : List Op) → ops_list (ops_in os) ≡ flat_map op_list os
in_ops [] = refl
in_ops (o ∷ os) = ap (λ xs. op_list o ++ xs) (in_ops os)

pub op_list_at : (o : OpTree) → op_list (plain_op o) ≡ plain_op o ∷ flat_map region_list (map region_plain (out-OpTree o).regions)
unfolding plain_op region_plain
op_list_at o =
    let layer : plain_op o ≡ op (record { name = (out-OpTree o).name; props = plain_entries (out-OpTree o).props; attrs = plain_entries (out-OpTree o).attrs }) (plain_values (out-OpTree o).results) (out-OpTree o).operands (regions_in (map region_plain (out-OpTree o).regions)) (out-OpTree o).successors =
    fold_out-OpTree PlainBlock Op Blocks block_at op_at region_at o in
    ap op_list layer ∙ ap (λ x. x ∷ regions_list (regions_in (map region_plain (out-OpTree o).regions))) (sym layer) ∙ ap (λ xs. plain_op o ∷ xs) (in_regions (map region_plain (out-OpTree o).regions))

pub region_list_at : (r : RegionTree) → region_list (region_plain r) ≡ flat_map block_list (map block_plain (out-RegionTree r).blocks)
unfolding block_plain region_plain
region_list_at r =
    ap region_list (fold_out-RegionTree PlainBlock Op Blocks block_at op_at region_at r) ∙ in_blocks (map block_plain (out-RegionTree r).blocks)

pub block_list_at : (b : BlockTree) → block_list (block_plain b) ≡ flat_map op_list (map plain_op (out-BlockTree b).ops)
unfolding plain_op block_plain
block_list_at b =
    ap block_list (fold_out-BlockTree PlainBlock Op Blocks block_at op_at region_at b) ∙ in_ops (map plain_op (out-BlockTree b).ops)

-- The numbered operations

abbrev second : List (ℕ × Op) → List Op
second xs = map (λ (x : ℕ × Op). x.1) xs

mutual
  op_seconds : (n : ℕ) (o : Op) (more : List (ℕ × Op)) → second (op_listed n o more) ≡ op_list o ++ second more
  op_seconds n (op k results operands regions successors) more = ap (λ xs. op k results operands regions successors ∷ xs) (regions_seconds (n + 1) regions more)

  ops_seconds : (n : ℕ) (os : Ops) (more : List (ℕ × Op)) → second (ops_listed n os more) ≡ ops_list os ++ second more
  ops_seconds n end_of_ops more = refl
  ops_seconds n (more_ops o os) more =
      op_seconds n o (ops_listed (n + op_size o) os more) ∙ ap (λ xs. op_list o ++ xs) (ops_seconds (n + op_size o) os more)
      ∙ sym (append_assoc (op_list o) (ops_list os) (second more))

  regions_seconds : (n : ℕ) (rs : Regions) (more : List (ℕ × Op)) → second (regions_listed n rs more) ≡ regions_list rs ++ second more
  regions_seconds n end_of_regions more = refl
  regions_seconds n (region blocks rest) more =
      blocks_seconds n blocks (regions_listed (n + blocks_size blocks) rest more) ∙ ap (λ xs. region_list blocks ++ xs) (regions_seconds (n + blocks_size blocks) rest more)
      ∙ sym (append_assoc (region_list blocks) (regions_list rest) (second more))

  blocks_seconds : (n : ℕ) (bs : Blocks) (more : List (ℕ × Op)) → second (blocks_listed n bs more) ≡ region_list bs ++ second more
  blocks_seconds n end_of_blocks more = refl
  blocks_seconds n (block label args ops rest) more =
      ops_seconds n ops (blocks_listed (n + ops_size ops) rest more) ∙ ap (λ xs. ops_list ops ++ xs) (blocks_seconds (n + ops_size ops) rest more)
      ∙ sym (append_assoc (ops_list ops) (region_list rest) (second more))

no_more : (xs : List Op) → xs ++ [] ≡ xs
no_more [] = refl
no_more (x ∷ xs) = ap (λ ys. x ∷ ys) (no_more xs)

pub operations_are : (o : Op) → op_list o ≡ map (λ (x : ℕ × Op). x.1) (operations o)
operations_are o = sym (op_seconds 0 o [] ∙ no_more (op_list o))

pub ruleset layers = (common_steps, op_list_at, region_list_at, block_list_at, operations_are)
