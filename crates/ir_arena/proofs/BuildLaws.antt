-- The steps of a build.
use Rattle.std.proofs.Common.{◌≡◌, ℕ, ◌<◌, ◌+◌, List, [], ◌∷◌, ◌++◌, length, get_or, take, sym, ap, subst, ◌∙◌, arith}
use Rattle.std.specs.List.{AllZip}
use Rattle.std.proofs.lemmas.Grind.{common_steps}
use Rattle.std.proofs.lemmas.List.{take_more, get_or_push, length_push}
use Rattle.key_model.specs.declared.handle.Handle.{Handle}
use Rattle.key_model.specs.declared.key.Key.{Key}
use Rattle.tree_model.specs.declared.type_tree.TypeTree.{TypeTree}
use Rattle.tree_model.specs.declared.attr_tree.AttrTree.{AttrTree}
use Rattle.flat_model.specs.declared.nodes.NamedAttr.{NamedAttr}
use Rattle.tree_model.specs.declared.op_tree.OpTree.{OpTree, out-OpTree}
use Rattle.tree_model.specs.declared.op_tree.BlockTree.{BlockTree, out-BlockTree}
use Rattle.tree_model.specs.declared.op_tree.RegionTree.{RegionTree, out-RegionTree}
use Rattle.flat_model.specs.declared.nodes.OpNode.{OpNode}
use Rattle.flat_model.specs.Flat.{Flat, BlockNode, no_op, no_block, op_at, block_at, blocks_at, AllBelow, IsOpWithin, IsBlockWithin}
use Rattle.flat_model.specs.Growth.{Grown, Kept, Built}
use Rattle.flat_model.specs.Shows.{EntryShows, ValueShows, FrontShows, BlockFrontShows, OpShows, op_shown, OpsShow, ops_shown, RegionsShow, regions_shown, BlocksShow, blocks_shown}
use Rattle.flat_model.proofs.GrowthLaws.{zip_push, values_later, entries_later, ops_later, regions_later, blocks_later, grown_on, built_refl, built_on, kept_refl, kept_on, ops_more, regions_more, blocks_more, values_inside, ops_inside, regions_inside}
use Rattle.flat_model.proofs.PushLaws.{below_more, op_added, block_added, region_added}
use Rattle.ir_arena.specs.Handed.{NodeShows}

-- one item more of a list that is read in order, with its part of another list
pub zip_more : {A B : Type 0} (R : A → B → Type 0) (xs zs : List A) (ys : List B) (k : ℕ) (x : A) (y : B)
    → AllZip R xs (take k ys) → R x y → y ≡ get_or ys k y → k < length ys → zs ≡ xs ++ x ∷ [] → AllZip R zs (take (k + 1) ys)
zip_more R xs zs ys k x y a r e h s =
    subst (λ ts. AllZip R zs ts) (ap (λ z. take k ys ++ z ∷ []) e ∙ sym (take_more ys k y h))
    (subst (λ us. AllZip R us (take k ys ++ y ∷ [])) (sym s) (zip_push R xs (take k ys) x y a r))

pub next_entry : (H J : Handle → Key → Type 0) (xs zs : List NamedAttr) (ys : List (List ℕ × AttrTree)) (k : ℕ) (x : NamedAttr) (y : List ℕ × AttrTree)
    → Kept H J → AllZip (EntryShows H) xs (take k ys) → EntryShows J x y → y ≡ get_or ys k y → k < length ys → zs ≡ xs ++ x ∷ [] → AllZip (EntryShows J) zs (take (k + 1) ys)
next_entry H J xs zs ys k x y kept a s e h z = zip_more (EntryShows J) xs zs ys k x y (entries_later H J kept xs (take k ys) a) s e h z

pub next_value : (H J : Handle → Key → Type 0) (V : ℕ → ℕ → Type 0) (v b : ℕ) (f g : Flat) (xs zs : List ℕ) (ys : List (ℕ × TypeTree)) (k x : ℕ) (y : ℕ × TypeTree)
    → Kept H J → Built v b f g → AllZip (ValueShows H V f) xs (take k ys) → ValueShows J V g x y → y ≡ get_or ys k y → k < length ys → zs ≡ xs ++ x ∷ [] → AllZip (ValueShows J V g) zs (take (k + 1) ys)
next_value H J V v b f g xs zs ys k x y kept built a s e h z = zip_more (ValueShows J V g) xs zs ys k x y (values_later H J V V f g kept built.grown xs (take k ys) a) s e h z

at_next : {B : Type 0} (ys : List B) (k : ℕ) (y : B) → y ≡ get_or ys k y → k < length ys → take k ys ++ y ∷ [] ≡ take (k + 1) ys
at_next ys k y e h = ap (λ z. take k ys ++ z ∷ []) e ∙ sym (take_more ys k y h)

module _ (H J : Handle → Key → Type 0) (V L : ℕ → ℕ → Type 0) (v b : ℕ) (f g : Flat) (xs zs : List ℕ) (k x : ℕ) where
  pub next_op : (ys : List OpTree) (y : OpTree) → Kept H J → Built v b f g → OpsShow H V L f xs (take k ys) → OpShows J V L g x y → y ≡ get_or ys k y → k < length ys → zs ≡ xs ++ x ∷ [] → OpsShow J V L g zs (take (k + 1) ys)
  next_op ys y kept built a s e h z = subst (λ ts. OpsShow J V L g zs ts) (at_next ys k y e h)
      (subst (λ us. OpsShow J V L g us (take k ys ++ y ∷ [])) (sym z) (ops_more J V L g x y (ops_later H J V L f g kept built.grown a) s))

  pub next_region : (ys : List RegionTree) (y : RegionTree) → Kept H J → Built v b f g → RegionsShow H V L f xs (take k ys) → (x < length g.regions) × BlocksShow J V L g (blocks_at g x) (out-RegionTree y).blocks
      → y ≡ get_or ys k y → k < length ys → zs ≡ xs ++ x ∷ [] → RegionsShow J V L g zs (take (k + 1) ys)
  next_region ys y kept built a s e h z = subst (λ ts. RegionsShow J V L g zs ts) (at_next ys k y e h)
      (subst (λ us. RegionsShow J V L g us (take k ys ++ y ∷ [])) (sym z) (regions_more J V L g x y (regions_later H J V L f g kept built.grown a) s.0 s.1))

  pub next_block : (ys : List BlockTree) (y : BlockTree) → Kept H J → Built v b f g → BlocksShow H V L f xs (take k ys) → BlockFrontShows J V L g x y × OpsShow J V L g (block_at g x).ops (out-BlockTree y).ops
      → y ≡ get_or ys k y → k < length ys → zs ≡ xs ++ x ∷ [] → BlocksShow J V L g zs (take (k + 1) ys)
  next_block ys y kept built a s e h z = subst (λ ts. BlocksShow J V L g zs ts) (at_next ys k y e h)
      (subst (λ us. BlocksShow J V L g us (take k ys ++ y ∷ [])) (sym z) (blocks_more J V L g x y (blocks_later H J V L f g kept built.grown a) s.0 s.1))

-- what the node of an operation needs to be within bounds
pub op_within : (H I : Handle → Key → Type 0) (V L : ℕ → ℕ → Type 0) (v b : ℕ) (f g : Flat) (node : OpNode) (tree : OpTree) (results regions : List ℕ)
    → Built v b f g → AllZip (ValueShows H V f) results (out-OpTree tree).results → RegionsShow I V L g regions (out-OpTree tree).regions
    → node.results ≡ results → node.regions ≡ regions → AllBelow v node.operands → AllBelow b node.successors → IsOpWithin v b g node
op_within H I V L v b f g node tree results regions built s r e d o l = record {
  results = subst (AllBelow (length g.types)) (sym e) (below_more (length f.types) (length g.types) built.grown.more_types results (values_inside H V f results (out-OpTree tree).results s));
  operands = o;
  regions = subst (AllBelow (length g.regions)) (sym d) (regions_inside I V L g r);
  successors = l;
}

pub op_made : (H I J : Handle → Key → Type 0) (V L : ℕ → ℕ → Type 0) (v b : ℕ) (f g h : Flat) (node : OpNode) (tree : OpTree) (op : ℕ) (results regions : List ℕ)
    → Kept H I → Kept I J → Built v b f g → AllZip (ValueShows H V f) results (out-OpTree tree).results → RegionsShow I V L g regions (out-OpTree tree).regions → NodeShows J V L node tree
    → node.results ≡ results → node.regions ≡ regions → op ≡ length g.ops → h ≡ record g { ops = g.ops ++ node ∷ [] } → OpShows J V L h op tree
op_made H I J V L v b f g h node tree op results regions hi ij fg s r n e d o is =
    let a : Flat = record g { ops = g.ops ++ node ∷ [] } in
    let fa : Grown f a = grown_on f g a fg.grown (op_added g node) in
    let there : op_at a op ≡ node = get_or_push g.ops node no_op op (sym o) in
    let inside : op < length a.ops = omega (arith, length_push g.ops node) in
    subst (λ k. OpShows J V L k op tree) (sym is) (op_shown inside
    (subst (λ (x : OpNode). FrontShows J V L a x tree) (sym there) (record {
      name = n.name;
      results = subst (λ xs. AllZip (ValueShows J V a) xs (out-OpTree tree).results) (sym e) (values_later H J V V f a (kept_on H I J hi ij) fa results (out-OpTree tree).results s);
      operands = n.operands;
      props = n.props;
      attrs = n.attrs;
      successors = n.successors;
    }))
    (subst (λ (x : OpNode). RegionsShow J V L a x.regions (out-OpTree tree).regions) (sym there)
    (subst (λ xs. RegionsShow J V L a xs (out-OpTree tree).regions) (sym d) (regions_later I J V L g a ij (op_added g node) r))))

pub region_made : (H : Handle → Key → Type 0) (V L : ℕ → ℕ → Type 0) (f g : Flat) (blocks : List ℕ) (trees : List BlockTree) (region : ℕ)
    → BlocksShow H V L f blocks trees → region ≡ length f.regions → g ≡ record f { regions = f.regions ++ blocks ∷ [] }
    → (region < length g.regions) × BlocksShow H V L g (blocks_at g region) trees
region_made H V L f g blocks trees region s r is =
    let a : Flat = record f { regions = f.regions ++ blocks ∷ [] } in
    let there : blocks_at a region ≡ blocks = get_or_push f.regions blocks [] region (sym r) in
    let inside : region < length a.regions = omega (arith, length_push f.regions blocks) in
    subst (λ (k : Flat). (region < length k.regions) × BlocksShow H V L k (blocks_at k region) trees) (sym is)
    (inside, subst (λ bs. BlocksShow H V L a bs trees) (sym there) (blocks_later H H V L f a (kept_refl H) (region_added f blocks) s))

pub block_made : (H I : Handle → Key → Type 0) (V L : ℕ → ℕ → Type 0) (v b : ℕ) (f g h : Flat) (node : BlockNode) (tree : BlockTree) (block : ℕ)
    → Kept H I → Built v b f g → AllZip (ValueShows H V f) node.args (out-BlockTree tree).args → OpsShow I V L g node.ops (out-BlockTree tree).ops
    → L block (out-BlockTree tree).label → block ≡ length g.blocks → h ≡ record g { blocks = g.blocks ++ node ∷ [] }
    → BlockFrontShows I V L h block tree × OpsShow I V L h (block_at h block).ops (out-BlockTree tree).ops
block_made H I V L v b f g h node tree block hi fg s o l n is =
    let a : Flat = record g { blocks = g.blocks ++ node ∷ [] } in
    let fa : Grown f a = grown_on f g a fg.grown (block_added g node) in
    let there : block_at a block ≡ node = get_or_push g.blocks node no_block block (sym n) in
    let inside : block < length a.blocks = omega (arith, length_push g.blocks node) in
    subst (λ k. BlockFrontShows I V L k block tree × OpsShow I V L k (block_at k block).ops (out-BlockTree tree).ops) (sym is) (
      record {
        inside = inside;
        label = l;
        args = subst (λ (x : BlockNode). AllZip (ValueShows I V a) x.args (out-BlockTree tree).args) (sym there) (values_later H I V V f a hi fa node.args (out-BlockTree tree).args s);
      },
      subst (λ (x : BlockNode). OpsShow I V L a x.ops (out-BlockTree tree).ops) (sym there) (ops_later I I V L g a (kept_refl I) (block_added g node) o),
    )

-- what the node of a block needs to be within bounds
pub block_within : (H I : Handle → Key → Type 0) (V L : ℕ → ℕ → Type 0) (v b : ℕ) (f g : Flat) (node : BlockNode) (tree : BlockTree)
    → Built v b f g → AllZip (ValueShows H V f) node.args (out-BlockTree tree).args → OpsShow I V L g node.ops (out-BlockTree tree).ops → IsBlockWithin g node
block_within H I V L v b f g node tree built s o = record {
  args = below_more (length f.types) (length g.types) built.grown.more_types node.args (values_inside H V f node.args (out-BlockTree tree).args s);
  ops = ops_inside I V L g o;
}

pub no_ops : (H : Handle → Key → Type 0) (V L : ℕ → ℕ → Type 0) (f : Flat) → OpsShow H V L f [] []
no_ops H V L f = ops_shown

pub no_regions : (H : Handle → Key → Type 0) (V L : ℕ → ℕ → Type 0) (f : Flat) → RegionsShow H V L f [] []
no_regions H V L f = regions_shown

pub no_blocks : (H : Handle → Key → Type 0) (V L : ℕ → ℕ → Type 0) (f : Flat) → BlocksShow H V L f [] []
no_blocks H V L f = blocks_shown

pub ruleset build_laws = (common_steps, zip_push, built_refl, built_on, kept_refl, kept_on, no_ops, no_regions, no_blocks)

pub ruleset push_laws = (common_steps, built_refl)
