-- The names and the printed text of an operation, part by part.
use Rattle.std.proofs.Common.{◌≡◌, List, ℕ, ◌++◌, map, ap}
use Rattle.std.specs.Prelude.{codes, flat_map}
use Rattle.std.proofs.lemmas.Grind.{common_steps}
use Rattle.tree_model.specs.declared.op_tree.BlockTree.{BlockTree, out-BlockTree, fold_out-BlockTree, the_lemmas}
use Rattle.tree_model.specs.declared.op_tree.OpTree.{OpTree, out-OpTree, fold_out-OpTree}
use Rattle.tree_model.specs.declared.op_tree.RegionTree.{RegionTree, out-RegionTree, fold_out-RegionTree}
use Rattle.text_model.specs.PrintedPlaces.{Place, result_places, successor_at, BlockPlaces, block_places, op_places, region_places, places_from, places_of_op, places_of_block, places_of_region}
use Rattle.text_model.specs.PrintedNames.{Names}
use Rattle.text_model.specs.PrintedOps.{BlockParts, block_step, op_step, region_step, op_text, region_text, block_parts, head_text, tail_text, regions_text, blocks_text}

-- the places of an operation
pub places_of_op_at : (o : OpTree) → places_of_op o ≡ result_places (out-OpTree o).results ++ map successor_at (out-OpTree o).successors ++ flat_map (λ ps. ps) (map places_of_region (out-OpTree o).regions)
places_of_op_at o = fold_out-OpTree BlockPlaces (List Place) (List Place) block_places op_places region_places o

-- the places of a region
pub places_of_region_at : (r : RegionTree) → places_of_region r ≡ places_from 0 (map places_of_block (out-RegionTree r).blocks)
places_of_region_at r = fold_out-RegionTree BlockPlaces (List Place) (List Place) block_places op_places region_places r

-- the parts of a block with its places
pub places_of_block-label : (b : BlockTree) → (places_of_block b).label ≡ (out-BlockTree b).label
places_of_block-label b = ap (λ p. p.label) (fold_out-BlockTree BlockPlaces (List Place) (List Place) block_places op_places region_places b)

pub places_of_block-arguments : (b : BlockTree) → (places_of_block b).arguments ≡ (out-BlockTree b).args
places_of_block-arguments b = ap (λ p. p.arguments) (fold_out-BlockTree BlockPlaces (List Place) (List Place) block_places op_places region_places b)

pub places_of_block-inner : (b : BlockTree) → (places_of_block b).inner ≡ flat_map (λ ps. ps) (map places_of_op (out-BlockTree b).ops)
places_of_block-inner b = ap (λ p. p.inner) (fold_out-BlockTree BlockPlaces (List Place) (List Place) block_places op_places region_places b)

-- the lines of an operation
pub op_text_at : (n : Names) (o : OpTree) (indent : List ℕ) → op_text n o indent ≡ indent ++ head_text n (out-OpTree o) ++ regions_text (map (λ r. r indent) (map (region_text n) (out-OpTree o).regions)) ++ tail_text n (out-OpTree o)
unfolding head_text tail_text
op_text_at n o indent = ap (λ f. f indent) (fold_out-OpTree BlockParts (List ℕ → List ℕ) (List ℕ → List ℕ) block_step (op_step n) (region_step n) o)

-- the lines of a region
pub region_text_at : (n : Names) (r : RegionTree) (indent : List ℕ) → region_text n r indent ≡ codes "{\n" ++ blocks_text n indent (map (block_parts n) (out-RegionTree r).blocks) ++ indent ++ codes "}"
region_text_at n r indent = ap (λ f. f indent) (fold_out-RegionTree BlockParts (List ℕ → List ℕ) (List ℕ → List ℕ) block_step (op_step n) (region_step n) r)

-- the lines of a block's operations
pub body_at : (n : Names) (b : BlockTree) (indent : List ℕ) → (block_parts n b).body indent ≡ flat_map (λ o. o indent) (map (op_text n) (out-BlockTree b).ops)
body_at n b indent = ap (λ p. p.body indent) (fold_out-BlockTree BlockParts (List ℕ → List ℕ) (List ℕ → List ℕ) block_step (op_step n) (region_step n) b)

-- what a walk that names needs
pub ruleset place_laws = (common_steps, the_lemmas, places_of_op_at, places_of_region_at, places_of_block-label, places_of_block-arguments, places_of_block-inner)

-- what a walk that prints needs
pub ruleset text_laws = (common_steps, the_lemmas, op_text_at, region_text_at, body_at)
