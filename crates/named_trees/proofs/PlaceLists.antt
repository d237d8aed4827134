-- The places of a plain operation, in front of those behind it.
use Rattle.std.proofs.Common.{◌≡◌, ℕ, zero, suc, ◌+◌, List, [], ◌∷◌, ◌++◌, map, refl, ap, ◌∙◌, append_assoc}
use Rattle.std.specs.Prelude.{flat_map}
use Rattle.tree_model.specs.declared.type_tree.TypeTree.{TypeTree}
use Rattle.tree_model.specs.declared.op_tree.BlockTree.{roll-BlockTree}
use Rattle.tree_model.specs.declared.op_tree.RegionTree.{roll-RegionTree}
use Rattle.tree_model.specs.declared.op_tree.BlockTree.TheFolds.{fold-roll-OpTree, fold-roll-BlockTree, fold-roll-RegionTree}
use Rattle.plain_tree.specs.Types.{type_tree}
use Rattle.plain_tree.specs.Attrs.{entries_tree}
use Rattle.plain_tree.specs.Ops.{Kind, Op, op, Ops, end_of_ops, more_ops, Regions, end_of_regions, region, Blocks, end_of_blocks, block, Values, block_trees, op_tree, op_trees, region_trees, values_tree}
use Rattle.text_model.specs.PrintedPlaces.{BlockPlaces, Place, argument_at, argument_places, block_at, block_places, group_at, op_places, places_from, places_of_block, places_of_op, places_of_region, region_places, result_places, single_at, successor_at}

-- an argument of the block at a position
abbrev pub arg_at : ℕ → (ℕ × TypeTree) → Place
arg_at zero v = argument_at v
arg_at (suc n) v = single_at v

abbrev pub results_front : Values → List Place → List Place
results_front [] rest = rest
results_front (v ∷ []) rest = single_at (v.0, type_tree v.1) ∷ rest
results_front (v ∷ w ∷ vs) rest = group_at (values_tree (v ∷ w ∷ vs)) ∷ rest

abbrev pub successors_front : List ℕ → List Place → List Place
successors_front [] rest = rest
successors_front (l ∷ ls) rest = successor_at l ∷ successors_front ls rest

abbrev pub args_front : ℕ → Values → List Place → List Place
args_front n [] rest = rest
args_front n (v ∷ vs) rest = arg_at n (v.0, type_tree v.1) ∷ args_front n vs rest

abbrev mutual
  pub op_front : Op → List Place → List Place
  op_front (op k results operands regions successors) rest = results_front results (successors_front successors (regions_front regions rest))

  pub ops_front : Ops → List Place → List Place
  ops_front end_of_ops rest = rest
  ops_front (more_ops o os) rest = op_front o (ops_front os rest)

  pub regions_front : Regions → List Place → List Place
  regions_front end_of_regions rest = rest
  regions_front (region blocks more) rest = blocks_front 0 blocks (regions_front more rest)

  pub blocks_front : ℕ → Blocks → List Place → List Place
  blocks_front n end_of_blocks rest = rest
  blocks_front n (block label args ops more) rest = block_at n label ∷ args_front n args (ops_front ops (blocks_front (n + 1) more rest))

results_are : (vs : Values) (rest : List Place) → result_places (values_tree vs) ++ rest ≡ results_front vs rest
results_are [] rest = refl
results_are (v ∷ []) rest = refl
results_are (v ∷ w ∷ vs) rest = refl

successors_are : (ls : List ℕ) (rest : List Place) → map successor_at ls ++ rest ≡ successors_front ls rest
successors_are [] rest = refl
successors_are (l ∷ ls) rest = ap (λ ps. successor_at l ∷ ps) (successors_are ls rest)

args_are : (n : ℕ) (vs : Values) (rest : List Place) → argument_places n (values_tree vs) ++ rest ≡ args_front n vs rest
args_are zero [] rest = refl
args_are zero (v ∷ vs) rest = ap (λ ps. argument_at (v.0, type_tree v.1) ∷ ps) (args_are zero vs rest)
args_are (suc n) [] rest = refl
args_are (suc n) (v ∷ vs) rest = ap (λ ps. single_at (v.0, type_tree v.1) ∷ ps) (args_are (suc n) vs rest)

op_is : (k : Kind) (results : Values) (operands : List ℕ) (regions : Regions) (successors : List ℕ)
    → places_of_op (op_tree (op k results operands regions successors)) ≡ result_places (values_tree results) ++ map successor_at successors ++ flat_map (λ ps. ps) (map places_of_region (region_trees regions))
op_is k results operands regions successors =
    fold-roll-OpTree BlockPlaces (List Place) (List Place) block_places op_places region_places
    (record { name = k.name; results = values_tree results; operands = operands; props = entries_tree k.props; attrs = entries_tree k.attrs; regions = region_trees regions; successors = successors })

region_is : (bs : Blocks) → places_of_region (roll-RegionTree (record { blocks = block_trees bs })) ≡ places_from 0 (map places_of_block (block_trees bs))
region_is bs = fold-roll-RegionTree BlockPlaces (List Place) (List Place) block_places op_places region_places (record { blocks = block_trees bs })

block_is : (label : ℕ) (args : Values) (ops : Ops) → places_of_block (roll-BlockTree (record { label = label; args = values_tree args; ops = op_trees ops }))
    ≡ record { label = label; arguments = values_tree args; inner = flat_map (λ ps. ps) (map places_of_op (op_trees ops)) }
block_is label args ops = fold-roll-BlockTree BlockPlaces (List Place) (List Place) block_places op_places region_places (record { label = label; args = values_tree args; ops = op_trees ops })

mutual
  pub places_are : (o : Op) (rest : List Place) → places_of_op (op_tree o) ++ rest ≡ op_front o rest
  places_are (op k results operands regions successors) rest =
      ap (λ ps. ps ++ rest) (op_is k results operands regions successors)
      ∙ append_assoc (result_places (values_tree results) ++ map successor_at successors) (flat_map (λ ps. ps) (map places_of_region (region_trees regions))) rest
      ∙ ap (λ ps. (result_places (values_tree results) ++ map successor_at successors) ++ ps) (regions_are regions rest)
      ∙ append_assoc (result_places (values_tree results)) (map successor_at successors) (regions_front regions rest)
      ∙ ap (λ ps. result_places (values_tree results) ++ ps) (successors_are successors (regions_front regions rest))
      ∙ results_are results (successors_front successors (regions_front regions rest))

  ops_are : (os : Ops) (rest : List Place) → flat_map (λ ps. ps) (map places_of_op (op_trees os)) ++ rest ≡ ops_front os rest
  ops_are end_of_ops rest = refl
  ops_are (more_ops o os) rest =
      append_assoc (places_of_op (op_tree o)) (flat_map (λ ps. ps) (map places_of_op (op_trees os))) rest ∙ ap (λ ps. places_of_op (op_tree o) ++ ps) (ops_are os rest) ∙ places_are o (ops_front os rest)

  regions_are : (rs : Regions) (rest : List Place) → flat_map (λ ps. ps) (map places_of_region (region_trees rs)) ++ rest ≡ regions_front rs rest
  regions_are end_of_regions rest = refl
  regions_are (region blocks more) rest =
      ap (λ (ps : List Place). (ps ++ flat_map (λ ps. ps) (map places_of_region (region_trees more))) ++ rest) (region_is blocks)
      ∙ append_assoc (places_from 0 (map places_of_block (block_trees blocks))) (flat_map (λ ps. ps) (map places_of_region (region_trees more))) rest
      ∙ ap (λ ps. places_from 0 (map places_of_block (block_trees blocks)) ++ ps) (regions_are more rest) ∙ blocks_are 0 blocks (regions_front more rest)

  blocks_are : (n : ℕ) (bs : Blocks) (rest : List Place) → places_from n (map places_of_block (block_trees bs)) ++ rest ≡ blocks_front n bs rest
  blocks_are n end_of_blocks rest = refl
  blocks_are n (block label args ops more) rest =
      ap (λ (b : BlockPlaces). (((block_at n b.label ∷ argument_places n b.arguments) ++ b.inner) ++ places_from (n + 1) (map places_of_block (block_trees more))) ++ rest)
      (block_is label args ops)
      ∙ ap (λ ps. block_at n label ∷ ps)
      (append_assoc (argument_places n (values_tree args) ++ flat_map (λ ps. ps) (map places_of_op (op_trees ops))) (places_from (n + 1) (map places_of_block (block_trees more))) rest
      ∙ append_assoc (argument_places n (values_tree args)) (flat_map (λ ps. ps) (map places_of_op (op_trees ops))) (places_from (n + 1) (map places_of_block (block_trees more)) ++ rest)
      ∙ ap (λ ps. argument_places n (values_tree args) ++ ps) (ap (λ ps. flat_map (λ ps. ps) (map places_of_op (op_trees ops)) ++ ps) (blocks_are (n + 1) more rest) ∙ ops_are ops (blocks_front (n + 1) more rest))
      ∙ args_are n args (ops_front ops (blocks_front (n + 1) more rest)))
