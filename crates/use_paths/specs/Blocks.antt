-- The blocks of a region by their places, and where values are defined in it.
use Rattle.std.specs.Prelude.{ℕ, ◌+◌, Bool, List, [], ◌∷◌, ◌++◌, map, Option, if◌then◌else◌}
use Rattle.plain_tree.specs.Ops.{Op, Ops, end_of_ops, more_ops, Blocks, end_of_blocks, block}
use Rattle.rule_model.specs.Words.{numbers, results_of, successors_of, count_of}
use Rattle.rule_model.specs.Paths.{ends}
use Rattle.use_paths.specs.declared.homes.Home.{Home}
use Rattle.first_places.specs.Tables.{nothing_yet, place_by, with_firsts}

-- whether an operation ends the path through its block
unfoldable pub stops : Op → Bool
stops = ends

-- where a block goes on
abbrev pub exits_by : Ops → List ℕ
exits_by end_of_ops = []
exits_by (more_ops o rest) = if stops o then successors_of o else exits_by rest

-- how many operations of a block are left at its first terminator, with it; 0 where it has none
abbrev pub left_at_end : Ops → ℕ
left_at_end end_of_ops = 0
left_at_end (more_ops o rest) = if stops o then count_of rest + 1 else left_at_end rest

-- The labels of blocks with their places, from the n-th block on

abbrev pub labels_from : ℕ → Blocks → List (ℕ × ℕ)
labels_from n end_of_blocks = []
labels_from n (block label args ops more) = (label, n) ∷ labels_from (n + 1) more

abbrev pub block_count : Blocks → ℕ
block_count end_of_blocks = 0
block_count (block label args ops more) = block_count more + 1

-- the place of the first block with a label, the number of blocks where there is none
abbrev pub place_in : Blocks → ℕ → ℕ
place_in bs = place_by (with_firsts nothing_yet (labels_from 0 bs)) (block_count bs)

-- The values that a region itself defines, each with its home: the place of the block, and how many operations of the block stand
-- behind the definition

abbrev pub all_at : Home → List ℕ → List (ℕ × Home)
all_at home [] = []
all_at home (v ∷ vs) = (v, home) ∷ all_at home vs

abbrev pub op_homes : ℕ → Ops → List (ℕ × Home)
op_homes n end_of_ops = []
op_homes n (more_ops o rest) = all_at (record { block = n; left = count_of rest }) (results_of o) ++ op_homes n rest

abbrev pub homes_from : ℕ → Blocks → List (ℕ × Home)
homes_from n end_of_blocks = []
homes_from n (block label args ops more) =
    all_at (record { block = n; left = count_of ops }) (numbers args) ++ (op_homes n ops ++ homes_from (n + 1) more)

abbrev pub home_in : Blocks → ℕ → Option Home
home_in bs = with_firsts nothing_yet (homes_from 0 bs)

-- The graph of the blocks

abbrev pub graph_by : (ℕ → ℕ) → Blocks → List (List ℕ)
graph_by place end_of_blocks = []
graph_by place (block label args ops more) = map place (exits_by ops) ∷ graph_by place more

abbrev pub graph : Blocks → List (List ℕ)
graph bs = graph_by (place_in bs) bs

-- how many operations are left at the end of each block
abbrev pub ends_in : Blocks → List ℕ
ends_in end_of_blocks = []
ends_in (block label args ops more) = left_at_end ops ∷ ends_in more
