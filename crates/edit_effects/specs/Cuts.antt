-- Blocks cut in two and joined again, and blocks that go over to another region.
use Rattle.std.specs.Prelude.{ℕ, suc, [], ◌∷◌, ◌++◌, length, set, insert, take, drop}
use Rattle.flat_model.specs.Flat.{Flat, no_block, block_at, blocks_at}
use Rattle.edit_model.specs.Writes.{with_blocks}

-- the block has what stood in it before a place, and a new block, without arguments, what stood there and behind
abbrev pub with_cut : Flat → ℕ → ℕ → Flat
with_cut f block at = record f { blocks = set f.blocks block (record (block_at f block) { ops = take at (block_at f block).ops }) ++ (record no_block { ops = drop at (block_at f block).ops }) ∷ [] }

-- what stands in the block `end` stands behind what stands in the other block, and the blocks from `end` on are gone
abbrev pub joined : Flat → ℕ → ℕ → Flat
joined f block end = record f { blocks = take end (set f.blocks block (record (block_at f block) { ops = (block_at f block).ops ++ (block_at f end).ops })) }

-- the block is cut at that place, and the new block stands in the region directly behind the one at a place
abbrev pub with_split : Flat → ℕ → ℕ → ℕ → ℕ → Flat
with_split f region place block at = with_blocks (with_cut f block at) region (insert (blocks_at f region) (suc place) (length f.blocks))

-- the blocks of a region stand before the one at a place of another region, and the first region has none
abbrev pub with_inlined : Flat → ℕ → ℕ → ℕ → Flat
with_inlined f region other place = with_blocks (with_blocks f region []) other (take place (blocks_at f other) ++ blocks_at f region ++ drop place (blocks_at f other))
