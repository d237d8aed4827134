-- What the parts of each layer of a tree are.
use Rattle.std.specs.Prelude.{Option}
use Rattle.std.proofs.Common.{◌≡◌, List, [], ◌∷◌, map, length, refl, sym, ap, ◌∙◌, arith}
use Rattle.std.proofs.lemmas.Grind.{common_steps}
use Rattle.tree_model.specs.declared.op_tree.BlockTree.{BlockTree, out-BlockTree}
use Rattle.tree_model.specs.declared.op_tree.OpTree.{OpTree, out-OpTree}
use Rattle.plain_tree.specs.Ops.{PlainBlock, blocks_in, ops_in, plain_op, plain_values}
use Rattle.value_types.specs.Trees.{plain_block}
use Rattle.value_types.proofs.Layers.{args_in_block, ops_in_block, plain_block_at, plain_op_at, plain_region_at}
use Rattle.rule_model.specs.Words.{count_of, name_of, numbers, results_of, successors_of}
use Rattle.rule_model.specs.Rows.{ends_block_as}
use Rattle.op_catalog.specs.Table.{shape_of}
use Rattle.rule_model.specs.declared.shapes.Shape.{Shape}
use Rattle.use_paths.specs.Blocks.{block_count, stops}
use Rattle.first_places.proofs.Tables.{firsts_joined}

pub count_of_ops : (os : List OpTree) → count_of (ops_in (map plain_op os)) ≡ length os
count_of_ops [] = refl
count_of_ops (o ∷ os) = let rest = count_of_ops os in omega (arith, rest)

pub results_at : (o : OpTree) → results_of (plain_op o) ≡ numbers (plain_values (out-OpTree o).results)
results_at o = ap results_of (plain_op_at o)

pub successors_at : (o : OpTree) → successors_of (plain_op o) ≡ (out-OpTree o).successors
successors_at o = ap successors_of (plain_op_at o)

pub label_in_block : (b : BlockTree) → (plain_block b).label ≡ (out-BlockTree b).label
label_in_block b = ap (λ (p : PlainBlock). p.label) (plain_block_at b)

-- whether an operation ends its block, by the shape of its name
pub stops_by : (o : OpTree) (s : Option Shape) → s ≡ shape_of (out-OpTree o).name → ends_block_as s ≡ stops (plain_op o)
unfolding shape_of stops
stops_by o s e = ap ends_block_as (e ∙ ap (λ p. shape_of (name_of p)) (sym (plain_op_at o)))

pub blocks_counted : (bs : List BlockTree) → block_count (blocks_in (map plain_block bs)) ≡ length bs
blocks_counted [] = refl
blocks_counted (b ∷ bs) = let rest = blocks_counted bs in omega (arith, rest)

pub ruleset layers = (common_steps, firsts_joined, count_of_ops, results_at, successors_at, label_in_block, args_in_block, ops_in_block, plain_region_at)
