-- Numbers above all values of a tree, and above all its labels.
use Rattle.std.specs.Prelude.{ℕ, ◌+◌, max, List, [], ◌∷◌}
use Rattle.tree_model.specs.declared.op_tree.BlockTree.{BlockTree}
use Rattle.tree_model.specs.declared.op_tree.RegionTree.{RegionTree}
use Rattle.tree_model.specs.declared.op_tree.BlockTree.TheFolds.{fold-BlockTree, fold-RegionTree}
use Rattle.plain_tree.specs.Ops.{Op, op, Ops, end_of_ops, more_ops, Regions, end_of_regions, region, Blocks, end_of_blocks, block, PlainBlock, Values, block_at, op_at, region_at}
use Rattle.new_numbers.specs.declared.tops.Tops.{Tops}

-- the plain form of a block, and of a region
unfoldable pub block_plain : BlockTree → PlainBlock
block_plain = fold-BlockTree PlainBlock Op Blocks block_at op_at region_at

unfoldable pub region_plain : RegionTree → Blocks
region_plain = fold-RegionTree PlainBlock Op Blocks block_at op_at region_at

abbrev pub with_value : Tops → ℕ → Tops
with_value t value = record { values = max t.values (value + 1); labels = t.labels }

abbrev pub with_label : Tops → ℕ → Tops
with_label t label = record { values = t.values; labels = max t.labels (label + 1) }

abbrev pub over_values : Values → Tops → Tops
over_values [] t = t
over_values (v ∷ vs) t = over_values vs (with_value t v.0)

abbrev pub over_numbers : List ℕ → Tops → Tops
over_numbers [] t = t
over_numbers (n ∷ ns) t = over_numbers ns (with_value t n)

abbrev pub over_labels : List ℕ → Tops → Tops
over_labels [] t = t
over_labels (l ∷ ls) t = over_labels ls (with_label t l)

abbrev mutual
  -- the tops behind a tree, where these ones were before it
  pub over_op : Op → Tops → Tops
  over_op (op k results operands regions successors) t = over_labels successors (over_regions regions (over_numbers operands (over_values results t)))

  pub over_ops : Ops → Tops → Tops
  over_ops end_of_ops t = t
  over_ops (more_ops o os) t = over_ops os (over_op o t)

  pub over_regions : Regions → Tops → Tops
  over_regions end_of_regions t = t
  over_regions (region blocks more) t = over_regions more (over_blocks blocks t)

  pub over_blocks : Blocks → Tops → Tops
  over_blocks end_of_blocks t = t
  over_blocks (block label args ops more) t = over_blocks more (over_ops ops (over_values args (with_label t label)))
