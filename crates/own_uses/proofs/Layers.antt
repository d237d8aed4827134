-- The operations and operands of each layer of a tree.
use Rattle.std.proofs.Common.{◌≡◌, ℕ, List, [], ◌∷◌, ◌++◌, map, refl, sym, ap, ◌∙◌, append_assoc}
use Rattle.std.specs.Prelude.{Option, Some, None}
use Rattle.std.proofs.lemmas.Grind.{common_steps}
use Rattle.tree_model.specs.declared.op_tree.OpTree.{OpTree, out-OpTree}
use Rattle.plain_tree.specs.Ops.{Op, op, Ops, end_of_ops, more_ops, Regions, end_of_regions, region, Blocks, end_of_blocks, block, regions_in, plain_op, plain_values}
use Rattle.value_types.specs.Trees.{plain_region}
use Rattle.value_types.proofs.Layers.{ops_in_block, plain_op_at, plain_region_at}
use Rattle.rule_model.specs.Words.{numbers, results_of}
use Rattle.rule_model.specs.Chains.{op_operands, regions_operands}
use Rattle.first_places.proofs.Tables.{firsts_joined}
use Rattle.own_uses.specs.Flat.{blocks_all, grown, if_made, makers_of, op_all, ops_all, regions_all}

-- An operation

-- an operation and those in it, behind others
pub all_of_op : (done : List Op) (o : OpTree) → grown done (op_all (plain_op o) []) ≡ grown (done ++ plain_op o ∷ []) (regions_all (regions_in (map plain_region (out-OpTree o).regions)) [])
all_of_op done o =
    ap (λ p. grown done (op_all p [])) (plain_op_at o)
    ∙ ap (λ p. grown (done ++ p ∷ []) (regions_all (regions_in (map plain_region (out-OpTree o).regions)) [])) (sym (plain_op_at o))

pub operands_of_op : (o : OpTree) → op_operands (plain_op o) ≡ (out-OpTree o).operands ++ regions_operands (regions_in (map plain_region (out-OpTree o).regions))
operands_of_op o = ap op_operands (plain_op_at o)

pub results_at : (o : OpTree) → results_of (plain_op o) ≡ numbers (plain_values (out-OpTree o).results)
results_at o = ap results_of (plain_op_at o)

-- Operations one after another

mutual
  pub grown_op : (done : List Op) (o : Op) (more : List Op) → grown done (op_all o more) ≡ grown (grown done (op_all o [])) more
  grown_op done (op k results operands regions successors) more = grown_regions (done ++ op k results operands regions successors ∷ []) regions more

  pub grown_ops : (done : List Op) (os : Ops) (more : List Op) → grown done (ops_all os more) ≡ grown (grown done (ops_all os [])) more
  grown_ops done end_of_ops more = refl
  grown_ops done (more_ops o os) more =
      grown_op done o (ops_all os more) ∙ grown_ops (grown done (op_all o [])) os more ∙ ap (λ d. grown d more) (sym (grown_op done o (ops_all os [])))

  pub grown_regions : (done : List Op) (rs : Regions) (more : List Op) → grown done (regions_all rs more) ≡ grown (grown done (regions_all rs [])) more
  grown_regions done end_of_regions more = refl
  grown_regions done (region bs rs) more =
      grown_blocks done bs (regions_all rs more) ∙ grown_regions (grown done (blocks_all bs [])) rs more ∙ ap (λ d. grown d more) (sym (grown_blocks done bs (regions_all rs [])))

  pub grown_blocks : (done : List Op) (bs : Blocks) (more : List Op) → grown done (blocks_all bs more) ≡ grown (grown done (blocks_all bs [])) more
  grown_blocks done end_of_blocks more = refl
  grown_blocks done (block label args ops bs) more =
      grown_ops done ops (blocks_all bs more) ∙ grown_blocks (grown done (ops_all ops [])) bs more ∙ ap (λ d. grown d more) (sym (grown_ops done ops (blocks_all bs [])))

pub grown_is : (done os : List Op) → grown done os ≡ done ++ os
grown_is [] [] = refl
grown_is (d ∷ done) [] = ap (λ ds. d ∷ ds) (grown_is done [])
grown_is done (o ∷ os) = grown_is (done ++ o ∷ []) os ∙ append_assoc done (o ∷ []) os

-- Makers

pub makers_joined : (maker : ℕ → Option ℕ) (us vs : List ℕ) → makers_of maker (us ++ vs) ≡ makers_of maker us ++ makers_of maker vs
makers_joined maker [] vs = refl
makers_joined maker (u ∷ us) vs = go (maker u) (makers_joined maker us vs)
  where
    go : (o : Option ℕ) → makers_of maker (us ++ vs) ≡ makers_of maker us ++ makers_of maker vs
        → if_made o (makers_of maker (us ++ vs)) ≡ if_made o (makers_of maker us) ++ makers_of maker vs
    go None e = e
    go (Some n) e = ap (λ ns. n ∷ ns) e

pub ruleset layers = (common_steps, firsts_joined, makers_joined, all_of_op, operands_of_op, results_at, ops_in_block, plain_region_at, grown_op, grown_ops, grown_blocks)
