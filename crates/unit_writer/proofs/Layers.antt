-- Each layer of a tree, and trees made of parts.
use Rattle.std.proofs.Common.{◌≡◌, map, sym, ap}
use Rattle.std.specs.Str.{bytes_eq}
use Rattle.std.proofs.lemmas.Grind.{common_steps}
use Rattle.tree_model.specs.declared.op_tree.OpTree.{OpTree, out-OpTree, roll-OpTree, fold_out-OpTree}
use Rattle.tree_model.specs.declared.op_tree.BlockTree.{BlockTree, out-BlockTree, roll-BlockTree, fold_out-BlockTree}
use Rattle.tree_model.specs.declared.op_tree.RegionTree.{RegionTree, out-RegionTree, roll-RegionTree, fold_out-RegionTree}
use Rattle.tree_model.specs.declared.op_tree.BlockTree.TheOpen.{OpTree-F, BlockTree-F, RegionTree-F}
use Rattle.tree_model.specs.declared.op_tree.BlockTree.TheFolds.{fold-roll-OpTree, fold-roll-BlockTree, fold-roll-RegionTree}
use Rattle.plain_tree.specs.Attrs.{plain_entries}
use Rattle.plain_tree.specs.Ops.{Op, op, Regions, Blocks, PlainBlock, block_at, op_at, region_at, blocks_in, ops_in, regions_in, plain_op, plain_values}
use Rattle.conversion_model.specs.Conversion.{regions_of}
use Rattle.conversion_model.specs.Templates.{copy_name}
use Rattle.conversion_model.specs.Uses.{is_copy}
use Rattle.conversion_model.specs.Targets.{name_of}
use Rattle.unit_writer.specs.Pages.{block_plain, op_from, region_plain}
use Rattle.unit_writer.specs.Writes.{with_regions}

-- Made of parts

pub op_made : (x : OpTree-F BlockTree OpTree RegionTree) → plain_op (roll-OpTree x)
    ≡ op_from x.name (plain_entries x.props) (plain_entries x.attrs) (plain_values x.results) x.operands (map region_plain x.regions) x.successors
unfolding plain_op region_plain op_from
op_made x = fold-roll-OpTree PlainBlock Op Blocks block_at op_at region_at x

pub block_made : (x : BlockTree-F BlockTree OpTree RegionTree) → block_plain (roll-BlockTree x) ≡ record { label = x.label; args = plain_values x.args; ops = ops_in (map plain_op x.ops) }
unfolding plain_op block_plain
block_made x = fold-roll-BlockTree PlainBlock Op Blocks block_at op_at region_at x

pub region_made : (x : RegionTree-F BlockTree OpTree RegionTree) → region_plain (roll-RegionTree x) ≡ blocks_in (map block_plain x.blocks)
unfolding block_plain region_plain
region_made x = fold-roll-RegionTree PlainBlock Op Blocks block_at op_at region_at x

pub ruleset makers = (common_steps, op_made, block_made, region_made)

-- Taken apart

pub op_plain_at : (o : OpTree) → plain_op o ≡ op_from (out-OpTree o).name (plain_entries (out-OpTree o).props) (plain_entries (out-OpTree o).attrs) (plain_values (out-OpTree o).results) (out-OpTree o).operands (map region_plain (out-OpTree o).regions) (out-OpTree o).successors
unfolding plain_op region_plain op_from
op_plain_at o = fold_out-OpTree PlainBlock Op Blocks block_at op_at region_at o

pub region_plain_at : (r : RegionTree) → region_plain r ≡ blocks_in (map block_plain (out-RegionTree r).blocks)
unfolding block_plain region_plain
region_plain_at r = fold_out-RegionTree PlainBlock Op Blocks block_at op_at region_at r

pub block_label_at : (b : BlockTree) → (block_plain b).label ≡ (out-BlockTree b).label
unfolding block_plain
block_label_at b = ap (λ (x : PlainBlock). x.label) (fold_out-BlockTree PlainBlock Op Blocks block_at op_at region_at b)

pub block_args_at : (b : BlockTree) → (block_plain b).args ≡ plain_values (out-BlockTree b).args
unfolding block_plain
block_args_at b = ap (λ (x : PlainBlock). x.args) (fold_out-BlockTree PlainBlock Op Blocks block_at op_at region_at b)

pub block_ops_at : (b : BlockTree) → (block_plain b).ops ≡ ops_in (map plain_op (out-BlockTree b).ops)
unfolding block_plain plain_op
block_ops_at b = ap (λ (x : PlainBlock). x.ops) (fold_out-BlockTree PlainBlock Op Blocks block_at op_at region_at b)

pub ruleset block_layers = (common_steps, region_plain_at, block_label_at, block_args_at, block_ops_at)

pub over_regions_at : (o : OpTree) (rs : Regions) → with_regions (plain_op o) rs
    ≡ op (record { name = (out-OpTree o).name; props = plain_entries (out-OpTree o).props; attrs = plain_entries (out-OpTree o).attrs }) (plain_values (out-OpTree o).results) (out-OpTree o).operands rs (out-OpTree o).successors
unfolding op_from
over_regions_at o rs = ap (λ x. with_regions x rs) (op_plain_at o)

pub op_from_is : (o : OpTree) (rs : _) → op_from (out-OpTree o).name (plain_entries (out-OpTree o).props) (plain_entries (out-OpTree o).attrs) (plain_values (out-OpTree o).results) (out-OpTree o).operands rs (out-OpTree o).successors
    ≡ with_regions (plain_op o) (regions_in rs)
unfolding op_from
op_from_is o rs = sym (over_regions_at o (regions_in rs))

pub ruleset op_layers = (common_steps, op_from_is)

pub regions_at : (o : OpTree) → regions_of (plain_op o) ≡ regions_in (map region_plain (out-OpTree o).regions)
unfolding op_from
regions_at o = ap regions_of (op_plain_at o)

pub copy_at : (o : OpTree) → is_copy (plain_op o) ≡ bytes_eq (out-OpTree o).name copy_name
unfolding op_from
copy_at o = ap is_copy (op_plain_at o)

pub name_at : (o : OpTree) → name_of (plain_op o) ≡ (out-OpTree o).name
unfolding op_from
name_at o = ap name_of (op_plain_at o)

pub ruleset layers = (common_steps, region_plain_at, block_label_at, block_args_at, block_ops_at, regions_at, copy_at, name_at)
