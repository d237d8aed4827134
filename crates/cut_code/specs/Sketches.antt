-- Sketches in plain form, and the sketch of an operation.
use Rattle.std.specs.Prelude.{ℕ, ◌+◌, List, [], ◌∷◌, Option, Some, None, length, map, if◌then◌else◌}
use Rattle.tree_model.specs.declared.type_tree.TypeTree.{TypeTree}
use Rattle.plain_tree.specs.Types.{plain_type}
use Rattle.plain_tree.specs.Attrs.{Entries, plain_entries}
use Rattle.plain_tree.specs.Ops.{Op, op, Regions, end_of_regions, region, Blocks, end_of_blocks, block, Values}
use Rattle.pattern_model.specs.ScfRows.{passed_by}
use Rattle.cut_code.specs.declared.sketch.BlockSketch.{BlockSketch}
use Rattle.cut_code.specs.declared.sketch.RegionSketch.{RegionSketch}
use Rattle.cut_code.specs.declared.sketch.OpSketch.{OpSketch}

-- a block as a cut sees it
pub record BlockView : Type 0 where
  pub label : ℕ
  pub args : Values
  pub passed : Option (List ℕ)

-- an operation as a cut sees it
pub record OpView : Type 0 where
  pub results : Values
  pub operands : List ℕ
  pub props : Entries
  pub regions : List (List BlockView)
  pub successors : ℕ

abbrev pub blocks_seen : Blocks → List BlockView
blocks_seen end_of_blocks = []
blocks_seen (block label args ops more) = record { label = label; args = args; passed = passed_by ops } ∷ blocks_seen more

abbrev pub regions_seen : Regions → List (List BlockView)
regions_seen end_of_regions = []
regions_seen (region blocks more) = blocks_seen blocks ∷ regions_seen more

abbrev pub sketch_of : Op → OpView
sketch_of (op k results operands regions successors) = record {
  results = results;
  operands = operands;
  props = k.props;
  regions = regions_seen regions;
  successors = length successors;
}

-- Of code

abbrev pub plain_values : List (ℕ × TypeTree) → Values
plain_values vs = map (λ v. (v.0, plain_type v.1)) vs

abbrev pub block_view : BlockSketch → BlockView
block_view b = record { label = b.label; args = plain_values b.args; passed = b.passed }

abbrev pub region_view : RegionSketch → List BlockView
region_view r = map block_view r.blocks

abbrev pub sketch_view : OpSketch → OpView
sketch_view s = record {
  results = plain_values s.results;
  operands = s.operands;
  props = plain_entries s.props;
  regions = map region_view s.regions;
  successors = s.successors;
}
