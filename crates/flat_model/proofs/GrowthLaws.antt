-- What is shown goes on being shown where nodes are added and handles keep their keys.
use Rattle.std.proofs.Common.{◌≡◌, ℕ, zero, suc, ◌<◌, ◌≤◌, ◌+◌, List, [], ◌∷◌, ◌++◌, length, get_or, refl, sym, ap, subst, ◌∙◌, arith}
use Rattle.std.specs.List.{AllZip, All}
use Rattle.key_model.specs.declared.handle.Handle.{Handle}
use Rattle.key_model.specs.declared.key.Key.{Key}
use Rattle.key_model.specs.declared.key.Key.TheVariants.{OfType, OfAttr}
use Rattle.tree_model.specs.declared.type_tree.TypeTree.{TypeTree}
use Rattle.tree_model.specs.declared.attr_tree.AttrTree.{AttrTree}
use Rattle.tree_model.specs.declared.op_tree.OpTree.{OpTree, out-OpTree}
use Rattle.tree_model.specs.declared.op_tree.BlockTree.{BlockTree, out-BlockTree}
use Rattle.tree_model.specs.declared.op_tree.RegionTree.{RegionTree, out-RegionTree}
use Rattle.flat_model.specs.declared.nodes.NamedAttr.{NamedAttr}
use Rattle.flat_model.specs.declared.nodes.OpNode.{OpNode}
use Rattle.flat_model.specs.Flat.{BlockNode, Flat, AllBelow, op_at, block_at, blocks_at, type_at}
use Rattle.flat_model.specs.Growth.{Grown, Built, Kept}
use Rattle.flat_model.specs.Shows.{ValueShows, EntryShows, FrontShows, BlockFrontShows, OpShows, op_shown, OpsShow, ops_shown, next_op_shown, RegionsShow, regions_shown, next_region_shown, BlocksShow, blocks_shown, next_block_shown}

-- a fact at each place, from another one
pub zip_map : {A B : Type 0} (R S : A → B → Type 0) → ((x : A) (y : B) → R x y → S x y) → (xs : List A) (ys : List B) → AllZip R xs ys → AllZip S xs ys
zip_map R S f [] [] t = tt
zip_map R S f [] (y ∷ ys) t = t
zip_map R S f (x ∷ xs) [] t = t
zip_map R S f (x ∷ xs) (y ∷ ys) t = (f x y t.0, zip_map R S f xs ys t.1)

-- one place more
pub zip_push : {A B : Type 0} (R : A → B → Type 0) (xs : List A) (ys : List B) (x : A) (y : B) → AllZip R xs ys → R x y → AllZip R (xs ++ x ∷ []) (ys ++ y ∷ [])
zip_push R [] [] x y t r = (r, tt)
zip_push R [] (z ∷ ys) x y t r = absurd t
zip_push R (z ∷ xs) [] x y t r = absurd t
zip_push R (w ∷ xs) (z ∷ ys) x y t r = (t.0, zip_push R xs ys x y t.1 r)

pub grown_refl : (f : Flat) → Grown f f
grown_refl f = record { ops = λ i h. refl; blocks = λ i h. refl; regions = λ i h. refl; types = λ i h. refl; more_ops = omega arith; more_blocks = omega arith; more_regions = omega arith; more_types = omega arith }

pub grown_on : (f g h : Flat) → Grown f g → Grown g h → Grown f h
grown_on f g h a b = record {
  ops = λ i k. b.ops i (let m = a.more_ops in omega arith) ∙ a.ops i k;
  blocks = λ i k. b.blocks i (let m = a.more_blocks in omega arith) ∙ a.blocks i k;
  regions = λ i k. b.regions i (let m = a.more_regions in omega arith) ∙ a.regions i k;
  types = λ i k. b.types i (let m = a.more_types in omega arith) ∙ a.types i k;
  more_ops = let m = a.more_ops in let n = b.more_ops in omega arith;
  more_blocks = let m = a.more_blocks in let n = b.more_blocks in omega arith;
  more_regions = let m = a.more_regions in let n = b.more_regions in omega arith;
  more_types = let m = a.more_types in let n = b.more_types in omega arith;
}

pub kept_refl : (H : Handle → Key → Type 0) → Kept H H
kept_refl H = record { kept = λ h k t. t }

pub kept_on : (H I J : Handle → Key → Type 0) → Kept H I → Kept I J → Kept H J
kept_on H I J a b = record { kept = λ h k t. b.kept h k (a.kept h k t) }

pub built_refl : (values blocks : ℕ) (f : Flat) → Built values blocks f f
built_refl values blocks f = record { grown = grown_refl f; within = λ c. c }

pub built_on : (values blocks : ℕ) (f g h : Flat) → Built values blocks f g → Built values blocks g h → Built values blocks f h
built_on values blocks f g h a b = record { grown = grown_on f g h a.grown b.grown; within = λ c. b.within (a.within c) }

pub entry_later : (H J : Handle → Key → Type 0) → Kept H J → (entry : NamedAttr) (tree : List ℕ × AttrTree) → EntryShows H entry tree → EntryShows J entry tree
entry_later H J k entry tree s = record { name = s.name; value = k.kept entry.value (OfAttr tree.1) s.value }

pub entries_later : (H J : Handle → Key → Type 0) → Kept H J → (entries : List NamedAttr) (trees : List (List ℕ × AttrTree)) → AllZip (EntryShows H) entries trees → AllZip (EntryShows J) entries trees
entries_later H J k entries trees = zip_map (EntryShows H) (EntryShows J) (entry_later H J k) entries trees

module _ (H J : Handle → Key → Type 0) (V L : ℕ → ℕ → Type 0) (f g : Flat) where
  pub value_later : Kept H J → Grown f g → (value : ℕ) (tree : ℕ × TypeTree) → ValueShows H V f value tree → ValueShows J V g value tree
  value_later k n value tree s = record {
    inside = let m = n.more_types in let i = s.inside in omega arith;
    number = s.number;
    type = k.kept (type_at g value) (OfType tree.1) (subst (λ h. H h (OfType tree.1)) (sym (n.types value s.inside)) s.type);
  }

  pub values_later : Kept H J → Grown f g → (values : List ℕ) (trees : List (ℕ × TypeTree)) → AllZip (ValueShows H V f) values trees → AllZip (ValueShows J V g) values trees
  values_later k n values trees = zip_map (ValueShows H V f) (ValueShows J V g) (value_later k n) values trees

  pub front_later : Kept H J → Grown f g → (node : OpNode) (tree : OpTree) → FrontShows H V L f node tree → FrontShows J V L g node tree
  front_later k n node tree s = record {
    name = s.name;
    results = values_later k n node.results (out-OpTree tree).results s.results;
    operands = s.operands;
    props = entries_later H J k node.props (out-OpTree tree).props s.props;
    attrs = entries_later H J k node.attrs (out-OpTree tree).attrs s.attrs;
    successors = s.successors;
  }

  pub block_front_later : Kept H J → Grown f g → (block : ℕ) (tree : BlockTree) → BlockFrontShows H V L f block tree → BlockFrontShows J V L g block tree
  block_front_later k n block tree s = record {
    inside = let m = n.more_blocks in let i = s.inside in omega arith;
    label = s.label;
    args = subst (λ (b : BlockNode). AllZip (ValueShows J V g) b.args (out-BlockTree tree).args) (sym (n.blocks block s.inside))
        (values_later k n (block_at f block).args (out-BlockTree tree).args s.args);
  }

  mutual
    pub op_later : Kept H J → Grown f g → {op : ℕ} {tree : OpTree} → OpShows H V L f op tree → OpShows J V L g op tree
    op_later k n (op_shown {op} {tree} i s r) = op_shown (let m = n.more_ops in omega arith)
        (subst (λ (o : OpNode). FrontShows J V L g o tree) (sym (n.ops op i)) (front_later k n (op_at f op) tree s))
        (subst (λ (o : OpNode). RegionsShow J V L g o.regions (out-OpTree tree).regions) (sym (n.ops op i)) (regions_later k n r))

    pub ops_later : Kept H J → Grown f g → {ops : List ℕ} {trees : List OpTree} → OpsShow H V L f ops trees → OpsShow J V L g ops trees
    ops_later k n ops_shown = ops_shown
    ops_later k n (next_op_shown s more) = next_op_shown (op_later k n s) (ops_later k n more)

    pub regions_later : Kept H J → Grown f g → {regions : List ℕ} {trees : List RegionTree} → RegionsShow H V L f regions trees → RegionsShow J V L g regions trees
    regions_later k n regions_shown = regions_shown
    regions_later k n (next_region_shown {region} {regions} {tree} i s more) = next_region_shown (let m = n.more_regions in omega arith)
        (subst (λ (bs : List ℕ). BlocksShow J V L g bs (out-RegionTree tree).blocks) (sym (n.regions region i)) (blocks_later k n s)) (regions_later k n more)

    pub blocks_later : Kept H J → Grown f g → {blocks : List ℕ} {trees : List BlockTree} → BlocksShow H V L f blocks trees → BlocksShow J V L g blocks trees
    blocks_later k n blocks_shown = blocks_shown
    blocks_later k n (next_block_shown {block} {blocks} {tree} s o more) = next_block_shown (block_front_later k n block tree s)
        (subst (λ (b : BlockNode). OpsShow J V L g b.ops (out-BlockTree tree).ops) (sym (n.blocks block s.inside)) (ops_later k n o)) (blocks_later k n more)

-- one number before others below a bound
pub below_next : (m : ℕ) (ps : List ℕ) (p : ℕ) → p < m → AllBelow m ps → AllBelow m (p ∷ ps)
below_next m ps p h a zero d l = h
below_next m ps p h a (suc k) d l = a k d (omega arith)

-- what is shown is there
pub values_inside : (H : Handle → Key → Type 0) (V : ℕ → ℕ → Type 0) (f : Flat) (values : List ℕ) (trees : List (ℕ × TypeTree)) → AllZip (ValueShows H V f) values trees → AllBelow (length f.types) values
values_inside H V f [] trees z = λ k d h. absurd (omega arith)
values_inside H V f (v ∷ vs) [] z = absurd z
values_inside H V f (v ∷ vs) (t ∷ ts) z = below_next (length f.types) vs v z.0.inside (values_inside H V f vs ts z.1)

pub op_inside : (H : Handle → Key → Type 0) (V L : ℕ → ℕ → Type 0) (f : Flat) {op : ℕ} {tree : OpTree} → OpShows H V L f op tree → op < length f.ops
op_inside H V L f (op_shown i s r) = i

pub ops_inside : (H : Handle → Key → Type 0) (V L : ℕ → ℕ → Type 0) (f : Flat) {ops : List ℕ} {trees : List OpTree} → OpsShow H V L f ops trees → AllBelow (length f.ops) ops
ops_inside H V L f ops_shown = λ k d h. absurd (omega arith)
ops_inside H V L f (next_op_shown {op} {ops} s more) = below_next (length f.ops) ops op (op_inside H V L f s) (ops_inside H V L f more)

pub regions_inside : (H : Handle → Key → Type 0) (V L : ℕ → ℕ → Type 0) (f : Flat) {regions : List ℕ} {trees : List RegionTree} → RegionsShow H V L f regions trees → AllBelow (length f.regions) regions
regions_inside H V L f regions_shown = λ k d h. absurd (omega arith)
regions_inside H V L f (next_region_shown {region} {regions} i s more) = below_next (length f.regions) regions region i (regions_inside H V L f more)

pub blocks_inside : (H : Handle → Key → Type 0) (V L : ℕ → ℕ → Type 0) (f : Flat) {blocks : List ℕ} {trees : List BlockTree} → BlocksShow H V L f blocks trees → AllBelow (length f.blocks) blocks
blocks_inside H V L f blocks_shown = λ k d h. absurd (omega arith)
blocks_inside H V L f (next_block_shown {block} {blocks} s o more) = below_next (length f.blocks) blocks block s.inside (blocks_inside H V L f more)

-- one more at the end
module _ (H : Handle → Key → Type 0) (V L : ℕ → ℕ → Type 0) (f : Flat) where
  pub ops_more : {ops : List ℕ} {trees : List OpTree} (op : ℕ) (tree : OpTree) → OpsShow H V L f ops trees → OpShows H V L f op tree → OpsShow H V L f (ops ++ op ∷ []) (trees ++ tree ∷ [])
  ops_more op tree ops_shown s = next_op_shown s ops_shown
  ops_more op tree (next_op_shown t more) s = next_op_shown t (ops_more op tree more s)

  pub regions_more : {regions : List ℕ} {trees : List RegionTree} (region : ℕ) (tree : RegionTree) → RegionsShow H V L f regions trees → region < length f.regions
      → BlocksShow H V L f (blocks_at f region) (out-RegionTree tree).blocks → RegionsShow H V L f (regions ++ region ∷ []) (trees ++ tree ∷ [])
  regions_more region tree regions_shown i s = next_region_shown i s regions_shown
  regions_more region tree (next_region_shown j t more) i s = next_region_shown j t (regions_more region tree more i s)

  pub blocks_more : {blocks : List ℕ} {trees : List BlockTree} (block : ℕ) (tree : BlockTree) → BlocksShow H V L f blocks trees → BlockFrontShows H V L f block tree
      → OpsShow H V L f (block_at f block).ops (out-BlockTree tree).ops → BlocksShow H V L f (blocks ++ block ∷ []) (trees ++ tree ∷ [])
  blocks_more block tree blocks_shown s o = next_block_shown s o blocks_shown
  blocks_more block tree (next_block_shown t p more) s o = next_block_shown t p (blocks_more block tree more s o)
