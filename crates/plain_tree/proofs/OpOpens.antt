-- The plain form of an operation, block and region that is rolled up, and of the tree of a plain operation.
use Rattle.std.proofs.Common.{◌≡◌, ℕ, List, [], ◌∷◌, map, refl, ap, ◌∙◌}
use Rattle.tree_model.specs.declared.op_tree.OpTree.{OpTree, roll-OpTree}
use Rattle.tree_model.specs.declared.op_tree.BlockTree.{BlockTree, roll-BlockTree}
use Rattle.tree_model.specs.declared.op_tree.RegionTree.{RegionTree, roll-RegionTree}
use Rattle.tree_model.specs.declared.op_tree.BlockTree.TheOpen.{OpTree-F, BlockTree-F, RegionTree-F}
use Rattle.tree_model.specs.declared.op_tree.BlockTree.TheFolds.{fold-BlockTree, fold-RegionTree, fold-roll-OpTree, fold-roll-BlockTree, fold-roll-RegionTree}
use Rattle.plain_tree.specs.Attrs.{Entries, entries_tree, plain_entries}
use Rattle.plain_tree.specs.Ops.{Kind, Op, op, Ops, end_of_ops, more_ops, Regions, end_of_regions, region, Blocks, end_of_blocks, block, PlainBlock, Values, block_at, op_at, region_at, blocks_in, ops_in, regions_in, op_tree, op_trees, region_trees, block_trees, plain_op, plain_values, values_tree}
use Rattle.plain_tree.proofs.TypeOpens.{plain_again}
use Rattle.plain_tree.proofs.AttrOpens.{entries_again}

abbrev pub plain_block : BlockTree → PlainBlock
plain_block = fold-BlockTree PlainBlock Op Blocks block_at op_at region_at

abbrev pub plain_region : RegionTree → Blocks
plain_region = fold-RegionTree PlainBlock Op Blocks block_at op_at region_at

pub values_again : (vs : Values) → plain_values (values_tree vs) ≡ vs
values_again [] = refl
values_again (v ∷ vs) = ap (λ t. (v.0, t) ∷ plain_values (values_tree vs)) (plain_again v.1) ∙ ap (λ rest. v ∷ rest) (values_again vs)

pub plain-roll : (x : OpTree-F BlockTree OpTree RegionTree) → plain_op (roll-OpTree x)
    ≡ op (record { name = x.name; props = plain_entries x.props; attrs = plain_entries x.attrs }) (plain_values x.results) x.operands (regions_in (map plain_region x.regions)) x.successors
unfolding plain_op
plain-roll x = fold-roll-OpTree PlainBlock Op Blocks block_at op_at region_at x

pub block-roll : (x : BlockTree-F BlockTree OpTree RegionTree) → plain_block (roll-BlockTree x) ≡ record { label = x.label; args = plain_values x.args; ops = ops_in (map plain_op x.ops) }
unfolding plain_op
block-roll x = fold-roll-BlockTree PlainBlock Op Blocks block_at op_at region_at x

pub region-roll : (x : RegionTree-F BlockTree OpTree RegionTree) → plain_region (roll-RegionTree x) ≡ blocks_in (map plain_block x.blocks)
region-roll x = fold-roll-RegionTree PlainBlock Op Blocks block_at op_at region_at x

same_op : (k : Kind) (props attrs : Entries) (results : Values) (vs : Values) (operands : List ℕ) (rs regions : Regions) (successors : List ℕ)
    → props ≡ k.props → attrs ≡ k.attrs → vs ≡ results → rs ≡ regions
    → op (record { name = k.name; props = props; attrs = attrs }) vs operands rs successors ≡ op k results operands regions successors
same_op k props attrs results vs operands rs regions successors p a v r =
    ap (λ x. op (record { name = k.name; props = x; attrs = attrs }) vs operands rs successors) p
    ∙ ap (λ x. op (record { name = k.name; props = k.props; attrs = x }) vs operands rs successors) a
    ∙ ap (λ x. op k x operands rs successors) v
    ∙ ap (λ x. op k results operands x successors) r

mutual
  -- the plain form of the tree of a plain operation is that operation
  pub op_again : (o : Op) → plain_op (op_tree o) ≡ o
  op_again (op k results operands regions successors) =
      plain-roll _ ∙ same_op k (plain_entries (entries_tree k.props)) (plain_entries (entries_tree k.attrs)) results (plain_values (values_tree results)) operands (regions_in (map plain_region (region_trees regions))) regions successors
      (entries_again k.props) (entries_again k.attrs) (values_again results) (regions_again regions)

  pub ops_again : (os : Ops) → ops_in (map plain_op (op_trees os)) ≡ os
  ops_again end_of_ops = refl
  ops_again (more_ops o os) = ap (λ x. more_ops x (ops_in (map plain_op (op_trees os)))) (op_again o) ∙ ap (more_ops o) (ops_again os)

  pub regions_again : (rs : Regions) → regions_in (map plain_region (region_trees rs)) ≡ rs
  regions_again end_of_regions = refl
  regions_again (region blocks more) =
      ap (λ x. region x (regions_in (map plain_region (region_trees more)))) (region-roll _ ∙ blocks_again blocks) ∙ ap (region blocks) (regions_again more)

  pub blocks_again : (bs : Blocks) → blocks_in (map plain_block (block_trees bs)) ≡ bs
  blocks_again end_of_blocks = refl
  blocks_again (block label args ops more) =
      ap (λ (b : PlainBlock). block b.label b.args b.ops (blocks_in (map plain_block (block_trees more)))) (block-roll _)
      ∙ ap (λ x. block label x (ops_in (map plain_op (op_trees ops))) (blocks_in (map plain_block (block_trees more)))) (values_again args)
      ∙ ap (λ x. block label args x (blocks_in (map plain_block (block_trees more)))) (ops_again ops)
      ∙ ap (block label args ops) (blocks_again more)
