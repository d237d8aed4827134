-- An operation is the tree of its plain form.
use Rattle.std.proofs.Common.{◌≡◌, ℕ, List, [], ◌∷◌, map, refl, ap, ◌∙◌, subst}
use Rattle.tree_model.specs.declared.type_tree.TypeTree.{TypeTree}
use Rattle.tree_model.specs.declared.op_tree.OpTree.{OpTree, roll-OpTree, map-OpTree}
use Rattle.tree_model.specs.declared.op_tree.BlockTree.{BlockTree, roll-BlockTree, map-BlockTree}
use Rattle.tree_model.specs.declared.op_tree.RegionTree.{RegionTree, roll-RegionTree, map-RegionTree}
use Rattle.tree_model.specs.declared.op_tree.BlockTree.TheOpen.{OpTree-F, BlockTree-F, RegionTree-F}
use Rattle.tree_model.specs.declared.op_tree.BlockTree.TheFolds.{fold-BlockTree, fold-RegionTree, ind-OpTree, fold-roll-OpTree, fold-roll-BlockTree, fold-roll-RegionTree}
use Rattle.tree_model.specs.declared.op_tree.FuncTree.{FuncTree}
use Rattle.tree_model.specs.declared.op_tree.ModuleTree.{ModuleTree}
use Rattle.plain_tree.specs.Attrs.{entries_tree, plain_entries}
use Rattle.plain_tree.specs.Ops.{Op, PlainBlock, Blocks, block_at, op_at, region_at, blocks_in, ops_in, regions_in, op_tree, op_trees, region_trees, block_trees, plain_op, plain_values, values_tree, plain_func, func_tree, plain_module, module_tree}
use Rattle.plain_tree.proofs.TypeTrip.{type_trip}
use Rattle.plain_tree.proofs.AttrTrip.{entries_trip}

pub values_trip : (vs : List (ℕ × TypeTree)) → values_tree (plain_values vs) ≡ vs
values_trip [] = refl
values_trip (v ∷ vs) = ap (λ t. (v.0, t) ∷ values_tree (plain_values vs)) (type_trip v.1) ∙ ap (λ rest. v ∷ rest) (values_trip vs)

abbrev plain_block : BlockTree → PlainBlock
plain_block = fold-BlockTree PlainBlock Op Blocks block_at op_at region_at

abbrev plain_region : RegionTree → Blocks
plain_region = fold-RegionTree PlainBlock Op Blocks block_at op_at region_at

abbrev block_tree : PlainBlock → BlockTree
block_tree b = roll-BlockTree (record { label = b.label; args = values_tree b.args; ops = op_trees b.ops })

abbrev region_tree : Blocks → RegionTree
region_tree bs = roll-RegionTree (record { blocks = block_trees bs })

abbrev pub OpTrip : OpTree → Type 0
OpTrip o = op_tree (plain_op o) ≡ o

abbrev BlockTrip : BlockTree → Type 0
BlockTrip b = block_tree (plain_block b) ≡ b

abbrev RegionTrip : RegionTree → Type 0
RegionTrip r = region_tree (plain_region r) ≡ r

ops_trip : (ks : List ((o : OpTree) × OpTrip o)) → op_trees (ops_in (map plain_op (map (λ k. k.0) ks))) ≡ map (λ k. k.0) ks
ops_trip [] = refl
ops_trip (k ∷ ks) = ap (λ o. o ∷ op_trees (ops_in (map plain_op (map (λ k. k.0) ks)))) k.1 ∙ ap (λ os. k.0 ∷ os) (ops_trip ks)

blocks_trip : (ks : List ((b : BlockTree) × BlockTrip b)) → block_trees (blocks_in (map plain_block (map (λ k. k.0) ks))) ≡ map (λ k. k.0) ks
blocks_trip [] = refl
blocks_trip (k ∷ ks) = ap (λ b. b ∷ block_trees (blocks_in (map plain_block (map (λ k. k.0) ks)))) k.1 ∙ ap (λ bs. k.0 ∷ bs) (blocks_trip ks)

regions_trip : (ks : List ((r : RegionTree) × RegionTrip r)) → region_trees (regions_in (map plain_region (map (λ k. k.0) ks))) ≡ map (λ k. k.0) ks
regions_trip [] = refl
regions_trip (k ∷ ks) = ap (λ r. r ∷ region_trees (regions_in (map plain_region (map (λ k. k.0) ks)))) k.1 ∙ ap (λ rs. k.0 ∷ rs) (regions_trip ks)

abbrev KeptBlock : Type 0
KeptBlock = (b : BlockTree) × BlockTrip b

abbrev KeptOp : Type 0
KeptOp = (o : OpTree) × OpTrip o

abbrev KeptRegion : Type 0
KeptRegion = (r : RegionTree) × RegionTrip r

abbrev the_block : KeptBlock → BlockTree
the_block k = k.0

abbrev the_op : KeptOp → OpTree
the_op k = k.0

abbrev the_region : KeptRegion → RegionTree
the_region k = k.0

abbrev opened_block : BlockTree-F KeptBlock KeptOp KeptRegion → BlockTree-F BlockTree OpTree RegionTree
opened_block = map-BlockTree KeptBlock KeptOp KeptRegion BlockTree OpTree RegionTree the_block the_op the_region

abbrev opened_op : OpTree-F KeptBlock KeptOp KeptRegion → OpTree-F BlockTree OpTree RegionTree
opened_op = map-OpTree KeptBlock KeptOp KeptRegion BlockTree OpTree RegionTree the_block the_op the_region

abbrev opened_region : RegionTree-F KeptBlock KeptOp KeptRegion → RegionTree-F BlockTree OpTree RegionTree
opened_region = map-RegionTree KeptBlock KeptOp KeptRegion BlockTree OpTree RegionTree the_block the_op the_region

abbrev block_kept : BlockTree-F BlockTree OpTree RegionTree → Type 0
block_kept x = block_tree (block_at (map-BlockTree BlockTree OpTree RegionTree PlainBlock Op Blocks plain_block plain_op plain_region x)) ≡ roll-BlockTree x

abbrev op_kept : OpTree-F BlockTree OpTree RegionTree → Type 0
op_kept x = op_tree (op_at (map-OpTree BlockTree OpTree RegionTree PlainBlock Op Blocks plain_block plain_op plain_region x)) ≡ roll-OpTree x

abbrev region_kept : RegionTree-F BlockTree OpTree RegionTree → Type 0
region_kept x = region_tree (region_at (map-RegionTree BlockTree OpTree RegionTree PlainBlock Op Blocks plain_block plain_op plain_region x)) ≡ roll-RegionTree x

block_layer : (y : BlockTree-F KeptBlock KeptOp KeptRegion) → block_kept (opened_block y)
block_layer y =
    ap (λ args. roll-BlockTree (record { label = y.label; args = args; ops = op_trees (ops_in (map plain_op (map the_op y.ops))) })) (values_trip y.args)
    ∙ ap (λ ops. roll-BlockTree (record { label = y.label; args = y.args; ops = ops })) (ops_trip y.ops)

op_layer : (y : OpTree-F KeptBlock KeptOp KeptRegion) → op_kept (opened_op y)
op_layer y =
    ap (λ results. roll-OpTree (record { name = y.name; results = results; operands = y.operands; props = entries_tree (plain_entries y.props); attrs = entries_tree (plain_entries y.attrs); regions = region_trees (regions_in (map plain_region (map the_region y.regions))); successors = y.successors })) (values_trip y.results)
    ∙ ap (λ props. roll-OpTree (record { name = y.name; results = y.results; operands = y.operands; props = props; attrs = entries_tree (plain_entries y.attrs); regions = region_trees (regions_in (map plain_region (map the_region y.regions))); successors = y.successors })) (entries_trip y.props)
    ∙ ap (λ attrs. roll-OpTree (record { name = y.name; results = y.results; operands = y.operands; props = y.props; attrs = attrs; regions = region_trees (regions_in (map plain_region (map the_region y.regions))); successors = y.successors })) (entries_trip y.attrs)
    ∙ ap (λ regions. roll-OpTree (record { name = y.name; results = y.results; operands = y.operands; props = y.props; attrs = y.attrs; regions = regions; successors = y.successors })) (regions_trip y.regions)

region_layer : (y : RegionTree-F KeptBlock KeptOp KeptRegion) → region_kept (opened_region y)
region_layer y = ap (λ blocks. roll-RegionTree (record { blocks = blocks })) (blocks_trip y.blocks)

pub op_trip : (o : OpTree) → OpTrip o
unfolding plain_op
op_trip = ind-OpTree BlockTrip OpTrip RegionTrip
    (λ x y is. ap block_tree (fold-roll-BlockTree PlainBlock Op Blocks block_at op_at region_at x) ∙ subst block_kept is (block_layer y))
    (λ x y is. ap op_tree (fold-roll-OpTree PlainBlock Op Blocks block_at op_at region_at x) ∙ subst op_kept is (op_layer y))
    (λ x y is. ap region_tree (fold-roll-RegionTree PlainBlock Op Blocks block_at op_at region_at x) ∙ subst region_kept is (region_layer y))

funcs_trip : (fs : List FuncTree) → map func_tree (map plain_func fs) ≡ fs
funcs_trip [] = refl
funcs_trip (f ∷ fs) = ap (λ o. record { op = o } ∷ map func_tree (map plain_func fs)) (op_trip f.op) ∙ ap (λ rest. f ∷ rest) (funcs_trip fs)

pub module_trip : (m : ModuleTree) → module_tree (plain_module m) ≡ m
module_trip m =
    ap (λ props. record { props = props; attrs = entries_tree (plain_entries m.attrs); funcs = map func_tree (map plain_func m.funcs) }) (entries_trip m.props)
    ∙ ap (λ attrs. record { props = m.props; attrs = attrs; funcs = map func_tree (map plain_func m.funcs) }) (entries_trip m.attrs)
    ∙ ap (λ funcs. record { props = m.props; attrs = m.attrs; funcs = funcs }) (funcs_trip m.funcs)
