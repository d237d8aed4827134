-- The numbers of values and labels in each layer of a tree, and numbers that stand twice.
use Rattle.std.proofs.Common.{◌≡◌, ℕ, zero, suc, ◌+◌, ◌<◌, ◌==◌, Bool, true, false, List, [], ◌∷◌, ◌++◌, map, length, get_or, drop, cond, refl, sym, ap, ◌∙◌, append_assoc, arith}
use Rattle.std.specs.Prelude.{◌||◌, ◌&&◌, not}
use Rattle.std.proofs.lemmas.List.{append-nil}
use Rattle.std.proofs.lemmas.Grind.{common_steps}
use Rattle.tree_model.specs.declared.op_tree.BlockTree.{BlockTree, out-BlockTree}
use Rattle.tree_model.specs.declared.op_tree.OpTree.{OpTree, out-OpTree}
use Rattle.plain_tree.specs.Ops.{Op, op, Ops, end_of_ops, more_ops, Regions, end_of_regions, region, Blocks, end_of_blocks, block, PlainBlock, Values, ops_in, regions_in, plain_op, plain_values}
use Rattle.plain_tree.specs.Values.{op_values, ops_values, regions_values, blocks_values}
use Rattle.rule_model.specs.Words.{has, numbers}
use Rattle.rule_model.specs.Formed.{are_once, op_labels, regions_labels}
use Rattle.value_types.specs.Trees.{plain_block, plain_region}
use Rattle.value_types.proofs.Layers.{args_in_block, ops_in_block, plain_block_at, plain_op_at, plain_region_at}
use Rattle.first_places.specs.Numbering.{is_numbered_once}
use Rattle.ir_verifier.specs.Numbering.{blocks_numbers, op_numbers, ops_numbers, regions_numbers}

-- Values

numbers_joined : (xs ys : Values) → numbers (xs ++ ys) ≡ numbers xs ++ numbers ys
numbers_joined [] ys = refl
numbers_joined (x ∷ xs) ys = ap (λ ns. x.0 ∷ ns) (numbers_joined xs ys)

mutual
  of_op : (o : Op) (more : Values) → numbers (op_values o more) ≡ op_numbers o ++ numbers more
  of_op (op k results operands regions successors) more =
      numbers_joined results (regions_values regions more)
      ∙ ap (λ ns. numbers results ++ ns) (of_regions regions more)
      ∙ sym (append_assoc (numbers results) (regions_numbers regions) (numbers more))

  of_ops : (os : Ops) (more : Values) → numbers (ops_values os more) ≡ ops_numbers os ++ numbers more
  of_ops end_of_ops more = refl
  of_ops (more_ops o os) more =
      of_op o (ops_values os more)
      ∙ ap (λ ns. op_numbers o ++ ns) (of_ops os more)
      ∙ sym (append_assoc (op_numbers o) (ops_numbers os) (numbers more))

  of_regions : (rs : Regions) (more : Values) → numbers (regions_values rs more) ≡ regions_numbers rs ++ numbers more
  of_regions end_of_regions more = refl
  of_regions (region blocks rest) more =
      of_blocks blocks (regions_values rest more)
      ∙ ap (λ ns. blocks_numbers blocks ++ ns) (of_regions rest more)
      ∙ sym (append_assoc (blocks_numbers blocks) (regions_numbers rest) (numbers more))

  of_blocks : (bs : Blocks) (more : Values) → numbers (blocks_values bs more) ≡ blocks_numbers bs ++ numbers more
  of_blocks end_of_blocks more = refl
  of_blocks (block label args ops rest) more =
      numbers_joined args (ops_values ops (blocks_values rest more))
      ∙ ap (λ ns. numbers args ++ ns) (of_ops ops (blocks_values rest more) ∙ ap (λ ns. ops_numbers ops ++ ns) (of_blocks rest more))
      ∙ sym (append_assoc (numbers args) (ops_numbers ops) (blocks_numbers rest ++ numbers more))
      ∙ sym (append_assoc (numbers args ++ ops_numbers ops) (blocks_numbers rest) (numbers more))

pub numbers_of_op : (o : Op) → op_numbers o ≡ numbers (op_values o [])
numbers_of_op o = sym (of_op o [] ∙ append-nil (op_numbers o))

-- One layer of a tree

pub numbers_at : (o : OpTree) → op_numbers (plain_op o) ≡ numbers (plain_values (out-OpTree o).results) ++ regions_numbers (regions_in (map plain_region (out-OpTree o).regions))
numbers_at o = ap op_numbers (plain_op_at o)

pub labels_at : (o : OpTree) → op_labels (plain_op o) ≡ regions_labels (regions_in (map plain_region (out-OpTree o).regions))
labels_at o = ap op_labels (plain_op_at o)

pub label_in_block : (b : BlockTree) → (plain_block b).label ≡ (out-BlockTree b).label
label_in_block b = ap (λ (p : PlainBlock). p.label) (plain_block_at b)

pub ruleset layers = (common_steps, append_assoc, numbers_at, labels_at, label_in_block, args_in_block, ops_in_block, plain_region_at)

-- Numbers that stand twice

has_more : (z : ℕ) (rest : List ℕ) (x : ℕ) (before after : Bool) → after ≡ cond (x == z) true before → before ≡ has z rest → after ≡ has z (x ∷ rest)
has_more z rest x before after put was = put ∙ go (x == z) was
  where
    go : (b : Bool) → before ≡ has z rest → cond b true before ≡ (b || has z rest)
    go true e = refl
    go false e = e

-- a number that stands again later
pub later_twice : (ns : List ℕ) (i j : ℕ) → j ≡ i + 1 → i < length ns → has (get_or ns i 0) (drop j ns) ≡ true → false ≡ are_once ns
later_twice [] i j e less h = absurd (omega (arith, less))
later_twice (n ∷ ns) zero j e less h =
    ap (λ b. not b && are_once ns) (sym (let one : 1 ≡ j = omega (arith, e) in ap (λ k. has n (drop k (n ∷ ns))) one ∙ h))
later_twice (n ∷ ns) (suc i) zero e less h = absurd (omega (arith, e))
later_twice (n ∷ ns) (suc i) (suc j) e less h = go (has n ns) (later_twice ns i j (omega (arith, e)) (omega (arith, less)) h)
  where
    go : (b : Bool) → false ≡ are_once ns → false ≡ (not b && are_once ns)
    go true k = refl
    go false k = k

pub values_twice : (o : Op) (b : Bool) → b ≡ are_once (op_numbers o) → b ≡ false → false ≡ is_numbered_once o
values_twice o b e no_more = ap (λ x. x && are_once (op_labels o)) (sym no_more ∙ e ∙ ap are_once (numbers_of_op o))

pub values_once : (o : Op) (b x : Bool) → b ≡ are_once (op_numbers o) → b ≡ true → x ≡ are_once (op_labels o) → x ≡ is_numbered_once o
values_once o b x e once is = is ∙ ap (λ y. y && are_once (op_labels o)) (sym once ∙ e ∙ ap are_once (numbers_of_op o))
