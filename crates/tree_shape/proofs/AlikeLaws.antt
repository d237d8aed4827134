-- Trees without numbers, one layer at a time.
use Rattle.std.proofs.Common.{◌≡◌, List, [], ◌∷◌, ℕ, ◌<◌, length, map, get_or, ap, refl, sym, ◌∙◌, arith}
use Rattle.std.proofs.lemmas.List.{get_or-map}
use Rattle.tree_model.specs.declared.op_tree.BlockTree.{BlockTree, out-BlockTree, roll-BlockTree, fold_out-BlockTree}
use Rattle.tree_model.specs.declared.op_tree.OpTree.{OpTree, out-OpTree, roll-OpTree, fold_out-OpTree}
use Rattle.tree_model.specs.declared.op_tree.RegionTree.{RegionTree, out-RegionTree, roll-RegionTree, fold_out-RegionTree}
use Rattle.tree_model.specs.declared.op_tree.BlockTree.TheOpen.{OpTree-F, BlockTree-F, RegionTree-F}
use Rattle.tree_model.specs.declared.op_tree.BlockTree.TheViews.{out-roll-OpTree, out-roll-BlockTree, out-roll-RegionTree}
use Rattle.tree_shape.specs.WithoutNumbers.{zeros, types_alone, bare_op, bare_block, bare_region, op_without_numbers, block_without_numbers, region_without_numbers}

-- the layer of each without numbers, with its children without numbers
abbrev pub op_layer : OpTree → OpTree-F BlockTree OpTree RegionTree
op_layer o = record {
  name = (out-OpTree o).name;
  results = types_alone (out-OpTree o).results;
  operands = zeros (out-OpTree o).operands;
  props = (out-OpTree o).props;
  attrs = (out-OpTree o).attrs;
  regions = map region_without_numbers (out-OpTree o).regions;
  successors = zeros (out-OpTree o).successors;
}

abbrev pub block_layer : BlockTree → BlockTree-F BlockTree OpTree RegionTree
block_layer b = record { label = 0; args = types_alone (out-BlockTree b).args; ops = map op_without_numbers (out-BlockTree b).ops }

abbrev pub region_layer : RegionTree → RegionTree-F BlockTree OpTree RegionTree
region_layer r = record { blocks = map block_without_numbers (out-RegionTree r).blocks }

pub op_at : (o : OpTree) → op_without_numbers o ≡ roll-OpTree (op_layer o)
op_at o = fold_out-OpTree BlockTree OpTree RegionTree bare_block bare_op bare_region o

pub block_at : (b : BlockTree) → block_without_numbers b ≡ roll-BlockTree (block_layer b)
block_at b = fold_out-BlockTree BlockTree OpTree RegionTree bare_block bare_op bare_region b

pub region_at : (r : RegionTree) → region_without_numbers r ≡ roll-RegionTree (region_layer r)
region_at r = fold_out-RegionTree BlockTree OpTree RegionTree bare_block bare_op bare_region r

-- lists of zeros are equal where they are equally long
pub zeros_alike : (xs ys : List ℕ) → length xs ≡ length ys → zeros xs ≡ zeros ys
zeros_alike [] [] e = refl
zeros_alike [] (y ∷ ys) e = grind arith
zeros_alike (x ∷ xs) [] e = grind arith
zeros_alike (x ∷ xs) (y ∷ ys) e = let f : length xs ≡ length ys = omega (arith, e) in ap (λ zs. 0 ∷ zs) (zeros_alike xs ys f)

-- without numbers, operations are equal where their parts are
pub op_from_parts : (a b : OpTree) → (out-OpTree a).name ≡ (out-OpTree b).name → types_alone (out-OpTree a).results ≡ types_alone (out-OpTree b).results → length (out-OpTree a).operands ≡ length (out-OpTree b).operands → (out-OpTree a).props ≡ (out-OpTree b).props → (out-OpTree a).attrs ≡ (out-OpTree b).attrs → length (out-OpTree a).successors ≡ length (out-OpTree b).successors → map region_without_numbers (out-OpTree a).regions ≡ map region_without_numbers (out-OpTree b).regions → op_without_numbers a ≡ op_without_numbers b
op_from_parts a b n r o p q s g = op_at a ∙ ap roll-OpTree (λ i. record { name = n i; results = r i; operands = zeros_alike (out-OpTree a).operands (out-OpTree b).operands o i; props = p i; attrs = q i; regions = g i; successors = zeros_alike (out-OpTree a).successors (out-OpTree b).successors s i }) ∙ sym (op_at b)

pub block_from_parts : (a b : BlockTree) → types_alone (out-BlockTree a).args ≡ types_alone (out-BlockTree b).args → map op_without_numbers (out-BlockTree a).ops ≡ map op_without_numbers (out-BlockTree b).ops → block_without_numbers a ≡ block_without_numbers b
block_from_parts a b r o = block_at a ∙ ap roll-BlockTree (λ i. record { label = 0; args = r i; ops = o i }) ∙ sym (block_at b)

pub region_from_parts : (a b : RegionTree) → map block_without_numbers (out-RegionTree a).blocks ≡ map block_without_numbers (out-RegionTree b).blocks → region_without_numbers a ≡ region_without_numbers b
region_from_parts a b g = region_at a ∙ ap roll-RegionTree (λ i. record { blocks = g i }) ∙ sym (region_at b)

-- and equal ones have equal parts
op_layers : (a b : OpTree) → op_without_numbers a ≡ op_without_numbers b → op_layer a ≡ op_layer b
op_layers a b e = sym (out-roll-OpTree (op_layer a)) ∙ ap out-OpTree (sym (op_at a) ∙ e ∙ op_at b) ∙ out-roll-OpTree (op_layer b)

pub op_regions_alike : (a b : OpTree) → op_without_numbers a ≡ op_without_numbers b → map region_without_numbers (out-OpTree a).regions ≡ map region_without_numbers (out-OpTree b).regions
op_regions_alike a b e = ap (λ o. o.regions) (op_layers a b e)

block_layers : (a b : BlockTree) → block_without_numbers a ≡ block_without_numbers b → block_layer a ≡ block_layer b
block_layers a b e = sym (out-roll-BlockTree (block_layer a)) ∙ ap out-BlockTree (sym (block_at a) ∙ e ∙ block_at b) ∙ out-roll-BlockTree (block_layer b)

pub block_ops_alike : (a b : BlockTree) → block_without_numbers a ≡ block_without_numbers b → map op_without_numbers (out-BlockTree a).ops ≡ map op_without_numbers (out-BlockTree b).ops
block_ops_alike a b e = ap (λ o. o.ops) (block_layers a b e)

pub region_blocks_alike : (a b : RegionTree) → region_without_numbers a ≡ region_without_numbers b → map block_without_numbers (out-RegionTree a).blocks ≡ map block_without_numbers (out-RegionTree b).blocks
region_blocks_alike a b e = ap (λ o. o.blocks) (sym (out-roll-RegionTree (region_layer a)) ∙ ap out-RegionTree (sym (region_at a) ∙ e ∙ region_at b) ∙ out-roll-RegionTree (region_layer b))

-- the elements at one place of lists whose images are equal
pub map_alike_at : {X Y : Type 0} (f : X → Y) (xs ys : List X) (i : ℕ) (x y : X) → map f xs ≡ map f ys → i < length xs → i < length ys → ((d : X) → x ≡ get_or xs i d) → ((d : X) → y ≡ get_or ys i d) → f x ≡ f y
map_alike_at f xs ys i x y e p q s t = ap f (s x) ∙ sym (get_or-map f xs i x (f x) p) ∙ ap (λ l. get_or l i (f x)) e ∙ get_or-map f ys i x (f x) q ∙ ap f (sym (t x))
