-- The operations of a function as a list, and the graph of their uses.
use Rattle.std.specs.Prelude.{ℕ, ◌+◌, List, [], ◌∷◌, ◌++◌, map, Option, Some, None}
use Rattle.plain_tree.specs.Ops.{Op, op, Ops, end_of_ops, more_ops, Regions, end_of_regions, region, Blocks, end_of_blocks, block}
use Rattle.rule_model.specs.Words.{results_of}
use Rattle.rule_model.specs.Chains.{op_operands}
use Rattle.first_places.specs.Tables.{nothing_yet, with_firsts}

abbrev mutual
  -- the operations of a tree in the order of the text, an operation before those in its regions, in front of others
  pub op_all : Op → List Op → List Op
  op_all (op k results operands regions successors) more = op k results operands regions successors ∷ regions_all regions more

  pub ops_all : Ops → List Op → List Op
  ops_all end_of_ops more = more
  ops_all (more_ops o rest) more = op_all o (ops_all rest more)

  pub regions_all : Regions → List Op → List Op
  regions_all end_of_regions more = more
  regions_all (region blocks rest) more = blocks_all blocks (regions_all rest more)

  pub blocks_all : Blocks → List Op → List Op
  blocks_all end_of_blocks more = more
  blocks_all (block label args ops rest) more = ops_all ops (blocks_all rest more)

-- a list that grows at its end
abbrev pub grown : List Op → List Op → List Op
grown done [] = done
grown done (o ∷ os) = grown (done ++ o ∷ []) os

-- The operation that has a result, by its number

abbrev pub numbered : ℕ → List ℕ → List (ℕ × ℕ)
numbered n [] = []
numbered n (v ∷ vs) = (v, n) ∷ numbered n vs

-- of operations from the n-th on
abbrev pub makers_from : ℕ → List Op → List (ℕ × ℕ)
makers_from n [] = []
makers_from n (o ∷ os) = numbered n (results_of o) ++ makers_from (n + 1) os

abbrev pub maker_in : List Op → ℕ → Option ℕ
maker_in os = with_firsts nothing_yet (makers_from 0 os)

-- The graph: an operation is followed by those of which it, or an operation in it, uses a result

abbrev pub if_made : Option ℕ → List ℕ → List ℕ
if_made None row = row
if_made (Some n) row = n ∷ row

abbrev pub makers_of : (ℕ → Option ℕ) → List ℕ → List ℕ
makers_of maker [] = []
makers_of maker (v ∷ vs) = if_made (maker v) (makers_of maker vs)

-- where an operation has no result nothing uses it, and its uses don't count
abbrev pub row_for : (ℕ → Option ℕ) → List ℕ → List ℕ → List ℕ
row_for maker [] used = []
row_for maker (v ∷ vs) used = makers_of maker used

abbrev pub row_of : (ℕ → Option ℕ) → Op → List ℕ
row_of maker o = row_for maker (results_of o) (op_operands o)

abbrev pub graph : List Op → List (List ℕ)
graph os = map (row_of (maker_in os)) os
