-- Shapes and sketches of each layer of a tree.
use Rattle.std.proofs.Common.{◌≡◌, ℕ, ◌+◌, suc, ◌<◌, ◌≤◌, List, [], ◌∷◌, get_or, map, length, refl, sym, ap, ◌∙◌, arith}
use Rattle.std.specs.Prelude.{Option}
use Rattle.std.proofs.lemmas.Grind.{common_steps}
use Rattle.tree_model.specs.declared.type_tree.TypeTree.{TypeTree}
use Rattle.tree_model.specs.declared.op_tree.OpTree.{OpTree, out-OpTree}
use Rattle.tree_model.specs.declared.op_tree.BlockTree.{BlockTree, out-BlockTree}
use Rattle.tree_model.specs.declared.op_tree.RegionTree.{RegionTree, out-RegionTree}
use Rattle.plain_tree.specs.Types.{PlainType, plain_type}
use Rattle.plain_tree.specs.Attrs.{plain_entries}
use Rattle.plain_tree.specs.Ops.{Op, op, Kind, Regions, Blocks, end_of_blocks, block, PlainBlock, blocks_in, ops_in, regions_in, plain_op, plain_values}
use Rattle.conversion_model.specs.Targets.{Shape, name_of, operands_of, region_count, shape_of}
use Rattle.conversion_model.specs.Choice.{first_arguments}
use Rattle.pattern_model.specs.ScfRows.{passed_by}
use Rattle.cut_code.specs.Sketches as sketches
use Rattle.cut_code.specs.Sketches.{BlockView, OpView, blocks_seen, regions_seen, sketch_of}
use Rattle.value_types.specs.Trees.{plain_block, plain_region}
use Rattle.value_types.proofs.Layers.{plain_op_at, plain_block_at, plain_region_at}
use Rattle.unit_views.specs.Seen.{block_arguments, block_seen}

-- Values

values_same : (vs : List (ℕ × TypeTree)) → plain_values vs ≡ sketches.plain_values vs
values_same [] = refl
values_same (v ∷ vs) = ap (λ ws. (v.0, plain_type v.1) ∷ ws) (values_same vs)

types_same : (vs : List (ℕ × TypeTree)) → map (λ v. v.1) (plain_values vs) ≡ map (λ v. plain_type v.1) vs
types_same [] = refl
types_same (v ∷ vs) = ap (λ ts. plain_type v.1 ∷ ts) (types_same vs)

-- Operations

pub name_at : (o : OpTree) → name_of (plain_op o) ≡ (out-OpTree o).name
name_at o = ap name_of (plain_op_at o)

pub operands_at : (o : OpTree) → operands_of (plain_op o) ≡ (out-OpTree o).operands
operands_at o = ap operands_of (plain_op_at o)

count_is : (rs : List Blocks) → region_count (regions_in rs) ≡ length rs
count_is [] = refl
count_is (r ∷ rs) = let e : length rs + 1 ≡ suc (length rs) = omega arith in ap (λ n. n + 1) (count_is rs) ∙ e

as_many : (rs : List RegionTree) → length (map plain_region rs) ≡ length rs
as_many [] = refl
as_many (r ∷ rs) = ap suc (as_many rs)

pub shape_at : (f : ℕ → PlainType) (o : OpTree) → shape_of f (plain_op o) ≡ record {
  name = (out-OpTree o).name;
  operands = map f (out-OpTree o).operands;
  results = map (λ v. plain_type v.1) (out-OpTree o).results;
  props = plain_entries (out-OpTree o).props;
  attrs = plain_entries (out-OpTree o).attrs;
  successors = length (out-OpTree o).successors;
  regions = length (out-OpTree o).regions;
}
shape_at f o =
    let parts : List PlainType → ℕ → Shape = λ ts n. record {
      name = (out-OpTree o).name;
      operands = map f (out-OpTree o).operands;
      results = ts;
      props = plain_entries (out-OpTree o).props;
      attrs = plain_entries (out-OpTree o).attrs;
      successors = length (out-OpTree o).successors;
      regions = n;
    } in
    ap (shape_of f) (plain_op_at o)
    ∙ ap (λ ts. parts ts (region_count (regions_in (map plain_region (out-OpTree o).regions)))) (types_same (out-OpTree o).results)
    ∙ ap (parts (map (λ v. plain_type v.1) (out-OpTree o).results)) (count_is (map plain_region (out-OpTree o).regions) ∙ as_many (out-OpTree o).regions)

-- Sketches

pub block_at : (b : BlockTree) → block_seen (plain_block b)
    ≡ record { label = (out-BlockTree b).label; args = sketches.plain_values (out-BlockTree b).args; passed = passed_by (ops_in (map plain_op (out-BlockTree b).ops)) }
block_at b =
    let view : List (ℕ × PlainType) → BlockView = λ vs. record { label = (out-BlockTree b).label; args = vs; passed = passed_by (ops_in (map plain_op (out-BlockTree b).ops)) } in
    ap block_seen (plain_block_at b) ∙ ap view (values_same (out-BlockTree b).args)

in_blocks : (bs : List PlainBlock) → blocks_seen (blocks_in bs) ≡ map block_seen bs
in_blocks [] = refl
in_blocks (b ∷ bs) = ap (λ vs. block_seen b ∷ vs) (in_blocks bs)

pub region_at : (r : RegionTree) → blocks_seen (plain_region r) ≡ map block_seen (map plain_block (out-RegionTree r).blocks)
region_at r = ap blocks_seen (plain_region_at r) ∙ in_blocks (map plain_block (out-RegionTree r).blocks)

in_regions : (rs : List Blocks) → regions_seen (regions_in rs) ≡ map blocks_seen rs
in_regions [] = refl
in_regions (r ∷ rs) = ap (λ vs. blocks_seen r ∷ vs) (in_regions rs)

pub sketch_at : (o : OpTree) → sketch_of (plain_op o) ≡ record {
  results = sketches.plain_values (out-OpTree o).results;
  operands = (out-OpTree o).operands;
  props = plain_entries (out-OpTree o).props;
  regions = map blocks_seen (map plain_region (out-OpTree o).regions);
  successors = length (out-OpTree o).successors;
}
sketch_at o =
    let parts : List (ℕ × PlainType) → List (List BlockView) → OpView = λ vs rs. record {
      results = vs;
      operands = (out-OpTree o).operands;
      props = plain_entries (out-OpTree o).props;
      regions = rs;
      successors = length (out-OpTree o).successors;
    } in
    ap sketch_of (plain_op_at o)
    ∙ ap (λ vs. parts vs (regions_seen (regions_in (map plain_region (out-OpTree o).regions)))) (values_same (out-OpTree o).results)
    ∙ ap (parts (sketches.plain_values (out-OpTree o).results)) (in_regions (map plain_region (out-OpTree o).regions))

-- First arguments

arguments_of : List Blocks → List (ℕ × PlainType)
arguments_of [] = []
arguments_of (r ∷ rs) = block_arguments r

first_of : (k : Kind) (results : List (ℕ × PlainType)) (operands successors : List ℕ) (rs : List Blocks)
    → first_arguments (op k results operands (regions_in rs) successors) ≡ arguments_of rs
unfolding arguments_of
first_of k results operands successors [] = refl
first_of k results operands successors (end_of_blocks ∷ rs) = refl
first_of k results operands successors (block label args ops more ∷ rs) = refl

first_in : (o : OpTree) → first_arguments (plain_op o) ≡ arguments_of (map plain_region (out-OpTree o).regions)
first_in o =
    ap first_arguments (plain_op_at o)
    ∙ first_of (record { name = (out-OpTree o).name; props = plain_entries (out-OpTree o).props; attrs = plain_entries (out-OpTree o).attrs })
    (plain_values (out-OpTree o).results) (out-OpTree o).operands (out-OpTree o).successors (map plain_region (out-OpTree o).regions)

-- without regions there are none
pub no_arguments : (o : OpTree) (rs : List RegionTree) → (out-OpTree o).regions ≡ rs → length rs < 1 → first_arguments (plain_op o) ≡ []
unfolding arguments_of
no_arguments o [] e h = first_in o ∙ ap (λ rs. arguments_of (map plain_region rs)) e
no_arguments o (r ∷ rs) e h = absurd (omega (arith, h))

-- those of the first region
pub region_first : (o : OpTree) (r : RegionTree) (rs : List RegionTree) → (out-OpTree o).regions ≡ rs → 1 ≤ length rs → r ≡ get_or rs 0 r → first_arguments (plain_op o) ≡ block_arguments (plain_region r)
unfolding arguments_of
region_first o r [] e h is = absurd (omega (arith, h))
region_first o r (q ∷ rs) e h is = first_in o ∙ ap (λ ss. arguments_of (map plain_region ss)) e ∙ ap (λ s. block_arguments (plain_region s)) (sym is)

pub no_block : (r : RegionTree) (bs : List BlockTree) → (out-RegionTree r).blocks ≡ bs → length bs < 1 → block_arguments (plain_region r) ≡ []
no_block r [] e h = ap block_arguments (plain_region_at r) ∙ ap (λ bs. block_arguments (blocks_in (map plain_block bs))) e
no_block r (b ∷ bs) e h = absurd (omega (arith, h))

pub block_first : (r : RegionTree) (b : BlockTree) (bs : List BlockTree) → (out-RegionTree r).blocks ≡ bs → 1 ≤ length bs → b ≡ get_or bs 0 b → block_arguments (plain_region r) ≡ plain_values (out-BlockTree b).args
block_first r b [] e h is = absurd (omega (arith, h))
block_first r b (a ∷ bs) e h is =
    ap block_arguments (plain_region_at r)
    ∙ ap (λ cs. block_arguments (blocks_in (map plain_block cs))) e
    ∙ ap (λ (c : PlainBlock). c.args) (plain_block_at a)
    ∙ ap (λ c. plain_values (out-BlockTree c).args) (sym is)

-- the types of values
pub types_are : (vs : List (ℕ × TypeTree)) (ws : List (ℕ × PlainType)) → plain_values vs ≡ ws → map (λ v. plain_type v.1) vs ≡ map (λ v. v.1) ws
types_are vs ws e = sym (types_same vs) ∙ ap (map (λ v. v.1)) e

pub ruleset layers = (common_steps, name_at, operands_at, shape_at, block_at, region_at, sketch_at)
