-- Places of functions that are the same but for numbers.
use Rattle.std.proofs.Common.{◌≡◌, ℕ, zero, suc, ◌+◌, List, [], ◌∷◌, ◌++◌, map, refl, sym, ap, subst}
use Rattle.std.specs.Prelude.{flat_map}
use Rattle.tree_model.specs.declared.type_tree.TypeTree.{TypeTree}
use Rattle.tree_model.specs.declared.op_tree.BlockTree.{roll-BlockTree}
use Rattle.tree_model.specs.declared.op_tree.RegionTree.{roll-RegionTree}
use Rattle.tree_model.specs.declared.op_tree.BlockTree.TheFolds.{fold-roll-OpTree, fold-roll-BlockTree, fold-roll-RegionTree}
use Rattle.plain_tree.specs.Attrs.{entries_tree}
use Rattle.plain_tree.specs.Ops.{Kind, Op, op, Ops, Regions, Blocks, Values, block_trees, op_tree, op_trees, region_trees, values_tree}
use Rattle.plain_tree.specs.Renamings.{RenAll, none_all, more_all, RenValues, none_values, more_values, RenOp, ren_op, RenOps, ops_ended, ren_more, RenRegions, regions_ended, ren_region, RenBlocks, blocks_ended, ren_block}
use Rattle.text_model.specs.PrintedPlaces.{BlockPlaces, Place, argument_at, argument_places, block_at, block_places, group_at, op_places, places_at, places_from, places_of_block, places_of_op, places_of_region, region_places, result_places, single_at, successor_at}

-- values of trees in order, of the same types
pub data TreeValues (R : ℕ → ℕ → Type 0) : List (ℕ × TypeTree) → List (ℕ × TypeTree) → Type 0 where
  none_tree : TreeValues R [] []
  more_tree : {m n : ℕ} {t : TypeTree} {vs ws : List (ℕ × TypeTree)} → R m n → TreeValues R vs ws → TreeValues R ((m, t) ∷ vs) ((n, t) ∷ ws)

pub tree_values : {R : ℕ → ℕ → Type 0} {vs ws : Values} → RenValues R vs ws → TreeValues R (values_tree vs) (values_tree ws)
tree_values none_values = none_tree
tree_values (more_values e rest) = more_tree e (tree_values rest)

pub both_values : {R : ℕ → ℕ → Type 0} {vs ws xs ys : List (ℕ × TypeTree)} → TreeValues R vs ws → TreeValues R xs ys → TreeValues R (vs ++ xs) (ws ++ ys)
both_values none_tree more = more
both_values (more_tree e rest) more = more_tree e (both_values rest more)

pub data RenPlace (R L : ℕ → ℕ → Type 0) : Place → Place → Type 0 where
  ren_argument : {m n : ℕ} {t : TypeTree} → R m n → RenPlace R L (argument_at (m, t)) (argument_at (n, t))
  ren_single : {m n : ℕ} {t : TypeTree} → R m n → RenPlace R L (single_at (m, t)) (single_at (n, t))
  ren_group : {vs ws : List (ℕ × TypeTree)} → TreeValues R vs ws → RenPlace R L (group_at vs) (group_at ws)
  ren_successor : {l m : ℕ} → L l m → RenPlace R L (successor_at l) (successor_at m)
  ren_block_at : {k l m : ℕ} → L l m → RenPlace R L (block_at k l) (block_at k m)

pub data RenPlaces (R L : ℕ → ℕ → Type 0) : List Place → List Place → Type 0 where
  no_places : RenPlaces R L [] []
  more_places : {p q : Place} {ps qs : List Place} → RenPlace R L p q → RenPlaces R L ps qs → RenPlaces R L (p ∷ ps) (q ∷ qs)

both_places : {R L : ℕ → ℕ → Type 0} {ps qs rs ss : List Place} → RenPlaces R L ps qs → RenPlaces R L rs ss → RenPlaces R L (ps ++ rs) (qs ++ ss)
both_places no_places more = more
both_places (more_places r rest) more = more_places r (both_places rest more)

moved : {R L : ℕ → ℕ → Type 0} {ps qs rs ss : List Place} → ps ≡ qs → rs ≡ ss → RenPlaces R L qs ss → RenPlaces R L ps rs
moved {R} {L} {ps} {qs} {rs} {ss} e d r = subst (λ x. RenPlaces R L x rs) (sym e) (subst (λ x. RenPlaces R L qs x) (sym d) r)

-- The places of an operation

result_ren : {R L : ℕ → ℕ → Type 0} {vs ws : List (ℕ × TypeTree)} → TreeValues R vs ws → RenPlaces R L (result_places vs) (result_places ws)
result_ren none_tree = no_places
result_ren (more_tree e none_tree) = more_places (ren_single e) no_places
result_ren (more_tree e (more_tree d rest)) = more_places (ren_group (more_tree e (more_tree d rest))) no_places

first_args : {R L : ℕ → ℕ → Type 0} {vs ws : List (ℕ × TypeTree)} → TreeValues R vs ws → RenPlaces R L (map argument_at vs) (map argument_at ws)
first_args none_tree = no_places
first_args (more_tree e rest) = more_places (ren_argument e) (first_args rest)

other_args : {R L : ℕ → ℕ → Type 0} {vs ws : List (ℕ × TypeTree)} → TreeValues R vs ws → RenPlaces R L (map single_at vs) (map single_at ws)
other_args none_tree = no_places
other_args (more_tree e rest) = more_places (ren_single e) (other_args rest)

args_ren : {R L : ℕ → ℕ → Type 0} {vs ws : List (ℕ × TypeTree)} (k : ℕ) → TreeValues R vs ws → RenPlaces R L (argument_places k vs) (argument_places k ws)
args_ren zero r = first_args r
args_ren (suc k) r = other_args r

successors_ren : {R L : ℕ → ℕ → Type 0} {ls ms : List ℕ} → RenAll L ls ms → RenPlaces R L (map successor_at ls) (map successor_at ms)
successors_ren none_all = no_places
successors_ren (more_all e rest) = more_places (ren_successor e) (successors_ren rest)

op_is : (k : Kind) (results : Values) (operands : List ℕ) (regions : Regions) (successors : List ℕ)
    → places_of_op (op_tree (op k results operands regions successors)) ≡ result_places (values_tree results) ++ map successor_at successors ++ flat_map (λ ps. ps) (map places_of_region (region_trees regions))
op_is k results operands regions successors =
    fold-roll-OpTree BlockPlaces (List Place) (List Place) block_places op_places region_places
    (record { name = k.name; results = values_tree results; operands = operands; props = entries_tree k.props; attrs = entries_tree k.attrs; regions = region_trees regions; successors = successors })

region_is : (bs : Blocks) → places_of_region (roll-RegionTree (record { blocks = block_trees bs })) ≡ places_from 0 (map places_of_block (block_trees bs))
region_is bs = fold-roll-RegionTree BlockPlaces (List Place) (List Place) block_places op_places region_places (record { blocks = block_trees bs })

block_is : (label : ℕ) (args : Values) (ops : Ops) → places_of_block (roll-BlockTree (record { label = label; args = values_tree args; ops = op_trees ops }))
    ≡ record { label = label; arguments = values_tree args; inner = flat_map (λ ps. ps) (map places_of_op (op_trees ops)) }
block_is label args ops = fold-roll-BlockTree BlockPlaces (List Place) (List Place) block_places op_places region_places (record { label = label; args = values_tree args; ops = op_trees ops })

mutual
  pub places_ren : {R L : ℕ → ℕ → Type 0} {o p : Op} → RenOp R L o p → RenPlaces R L (places_of_op (op_tree o)) (places_of_op (op_tree p))
  places_ren (ren_op {k} {rs} {ss} {os} {ps} {r} {s} {ls} {ms} results operands regions successors) =
      moved (op_is k rs os r ls) (op_is k ss ps s ms) (both_places (both_places (result_ren (tree_values results)) (successors_ren successors)) (regions_ren regions))

  ops_ren : {R L : ℕ → ℕ → Type 0} {os ps : Ops} → RenOps R L os ps → RenPlaces R L (flat_map (λ xs. xs) (map places_of_op (op_trees os))) (flat_map (λ xs. xs) (map places_of_op (op_trees ps)))
  ops_ren ops_ended = no_places
  ops_ren (ren_more o os) = both_places (places_ren o) (ops_ren os)

  regions_ren : {R L : ℕ → ℕ → Type 0} {r s : Regions} → RenRegions R L r s → RenPlaces R L (flat_map (λ xs. xs) (map places_of_region (region_trees r))) (flat_map (λ xs. xs) (map places_of_region (region_trees s)))
  regions_ren regions_ended = no_places
  regions_ren (ren_region {b} {c} blocks more) = both_places (moved (region_is b) (region_is c) (blocks_ren 0 blocks)) (regions_ren more)

  blocks_ren : {R L : ℕ → ℕ → Type 0} {b c : Blocks} (n : ℕ) → RenBlocks R L b c → RenPlaces R L (places_from n (map places_of_block (block_trees b))) (places_from n (map places_of_block (block_trees c)))
  blocks_ren n blocks_ended = no_places
  blocks_ren n (ren_block {l} {m} {vs} {ws} {os} {ps} {b} {c} e args ops more) =
      moved
      (ap (λ x. places_at n x ++ places_from (n + 1) (map places_of_block (block_trees b))) (block_is l vs os))
      (ap (λ x. places_at n x ++ places_from (n + 1) (map places_of_block (block_trees c))) (block_is m ws ps))
      (both_places (both_places (more_places (ren_block_at e) (args_ren n (tree_values args))) (ops_ren ops)) (blocks_ren (n + 1) more))
