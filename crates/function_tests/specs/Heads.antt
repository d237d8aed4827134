-- Heads of blocks, and blocks by their labels, from trees.
use Rattle.std.specs.Prelude.{ℕ, ◌+◌, ◌==◌, List, [], ◌∷◌, map, Option, Some, None, if◌then◌else◌}
use Rattle.std.specs.Option.{option_map}
use Rattle.tree_model.specs.declared.op_tree.BlockTree.{BlockTree, out-BlockTree}
use Rattle.tree_model.specs.declared.op_tree.RegionTree.{RegionTree, out-RegionTree}
use Rattle.plain_tree.specs.Ops.{PlainBlock}
use Rattle.rule_model.specs.Words.{types}
use Rattle.rule_model.specs.Facts.{Head, last_in}
use Rattle.value_types.specs.Trees.{plain_block}

abbrev pub head_at : PlainBlock → Head
head_at b = record { args = types b.args; last = last_in b.ops }

-- of blocks, and of those of a region
abbrev pub heads_in : List BlockTree → List Head
heads_in bs = map (λ b. head_at (plain_block b)) bs

abbrev pub heads_at : RegionTree → List Head
heads_at r = heads_in (out-RegionTree r).blocks

-- the place of the first block with this label
abbrev pub place_of : ℕ → List BlockTree → Option ℕ
place_of l [] = None
place_of l (b ∷ bs) = if (out-BlockTree b).label == l then Some 0 else option_map (λ n. n + 1) (place_of l bs)
