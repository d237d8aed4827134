-- What is seen of blocks.
use Rattle.std.specs.Prelude.{[]}
use Rattle.plain_tree.specs.Ops.{PlainBlock, Blocks, end_of_blocks, block, Values}
use Rattle.pattern_model.specs.ScfRows.{passed_by}
use Rattle.cut_code.specs.Sketches.{BlockView}

-- what a cut sees of a block
abbrev pub block_seen : PlainBlock → BlockView
block_seen b = record { label = b.label; args = b.args; passed = passed_by b.ops }

-- the arguments of the first of blocks
abbrev pub block_arguments : Blocks → Values
block_arguments end_of_blocks = []
block_arguments (block label args ops more) = args
