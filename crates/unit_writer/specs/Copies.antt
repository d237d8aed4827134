-- Copies left out of items, and the copies in them as pairs.
use Rattle.std.specs.Prelude.{ℕ, List, [], ◌∷◌, ◌++◌, if◌then◌else◌}
use Rattle.plain_tree.specs.Ops.{Op, op, Ops, end_of_ops, more_ops, Regions, end_of_regions, region, Blocks, end_of_blocks, block}
use Rattle.conversion_model.specs.Items.{Item, Puts, Begins}
use Rattle.conversion_model.specs.Uses.{is_copy, op_without, pair_in}

-- items without copies
abbrev pub clean : List Item → List Item
clean [] = []
clean (Puts o ∷ xs) = if is_copy o then clean xs else Puts (op_without is_copy o) ∷ clean xs
clean (Begins label args ∷ xs) = Begins label args ∷ clean xs

-- an operation's own pair, where it is a copy
abbrev pub own_pair : Op → List (ℕ × ℕ)
own_pair o = if is_copy o then pair_in o else []

abbrev mutual
  -- the copies in a tree as pairs, in the order of the text
  pub op_pairs : Op → List (ℕ × ℕ)
  op_pairs (op k results operands regions successors) = own_pair (op k results operands regions successors) ++ regions_pairs regions

  pub ops_pairs : Ops → List (ℕ × ℕ)
  ops_pairs end_of_ops = []
  ops_pairs (more_ops o os) = op_pairs o ++ ops_pairs os

  pub regions_pairs : Regions → List (ℕ × ℕ)
  regions_pairs end_of_regions = []
  regions_pairs (region blocks more) = blocks_pairs blocks ++ regions_pairs more

  pub blocks_pairs : Blocks → List (ℕ × ℕ)
  blocks_pairs end_of_blocks = []
  blocks_pairs (block label args ops more) = ops_pairs ops ++ blocks_pairs more

-- the copies in items
abbrev pub pairs_of : List Item → List (ℕ × ℕ)
pairs_of [] = []
pairs_of (Puts o ∷ xs) = op_pairs o ++ pairs_of xs
pairs_of (Begins label args ∷ xs) = pairs_of xs
