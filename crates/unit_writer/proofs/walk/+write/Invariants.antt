use Rattle.std.proofs.Common.{ℕ, ◌+◌, ◌++◌, [], drop, map}
use Rattle.plain_tree.specs.Ops.{plain_op}
use Rattle.conversion_model.specs.Conversion.{regions_of}
use Rattle.conversion_model.specs.Items.{held_at, held_in, held_regions}
use Rattle.unit_writer.specs.Pages.{block_plain, region_plain}
use Rattle.unit_writer.specs.Says.{EachRegionIn, said_by}
use Rattle.unit_writer.specs.Writes.{behind, blocks_behind, blocks_table, notes_view, regions_behind, regions_table, state_of, table_of}
use Rattle.unit_writer.proofs.Going.{Ahead}
use Rattle.unit_writer.proofs.Parts.{BlocksSaid, OpsSaid, PiecesSaid, RegionsSaid, blocks_held, ops_items, pieces_items, regions_held}
use Rattle.unit_writer.proofs.walk.+write.Given as goal

abbrev pub invariant-write_ops-loop-op : goal.invariant-write_ops-loop-op
invariant-write_ops-loop-op l =
    Ahead table_of behind (OpsSaid l.guide.slots.now l.guide.sizes.now l.ops l.initial.number) (ops_items l.held l.ops l.initial.number)
    (state_of l.initial.page l.initial.notes) (state_of l.page l.notes)
    (OpsSaid l.guide.slots.now l.guide.sizes.now (drop l.op-index l.ops) l.number) (ops_items l.held (drop l.op-index l.ops) l.number)

abbrev pub invariant-write_regions-loop-region : goal.invariant-write_regions-loop-region
invariant-write_regions-loop-region l =
    Ahead regions_table regions_behind (RegionsSaid l.guide.slots.now l.guide.sizes.now l.regions l.initial.number) (λ m more. regions_held l.regions l.initial.number m ++ more)
    (record { regions = []; notes = notes_view l.initial.notes }) (record { regions = map region_plain l.list; notes = notes_view l.notes })
    (RegionsSaid l.guide.slots.now l.guide.sizes.now (drop l.region-index l.regions) l.number) (λ m more. regions_held (drop l.region-index l.regions) l.number m ++ more)

abbrev pub invariant-write_blocks-loop-block : goal.invariant-write_blocks-loop-block
invariant-write_blocks-loop-block l =
    Ahead blocks_table blocks_behind (BlocksSaid l.guide.slots.now l.guide.sizes.now l.blocks l.initial.number) (λ m more. blocks_held l.blocks l.initial.number m ++ more)
    (record { blocks = []; notes = notes_view l.initial.notes }) (record { blocks = map block_plain l.list; notes = notes_view l.notes })
    (BlocksSaid l.guide.slots.now l.guide.sizes.now (drop l.block-index l.blocks) l.number) (λ m more. blocks_held (drop l.block-index l.blocks) l.number m ++ more)

abbrev pub invariant-write_cut-loop-index : goal.invariant-write_cut-loop-index
invariant-write_cut-loop-index l = (at : ℕ)
    → Ahead table_of behind (PiecesSaid l.number at (λ m. EachRegionIn (said_by l.guide m) (l.number + 1) (regions_of (plain_op l.op))) l.pieces l.lines 1) (pieces_items l.number at (λ m. held_regions m.ways (l.number + 1) (regions_of (plain_op l.op))) l.pieces 1)
    (state_of l.initial.page l.initial.notes) (state_of l.page l.notes)
    (PiecesSaid l.number at (λ m. EachRegionIn (said_by l.guide m) (l.number + 1) (regions_of (plain_op l.op))) (drop l.index l.pieces) (drop l.index l.lines) (l.index + 1)) (pieces_items l.number at (λ m. held_regions m.ways (l.number + 1) (regions_of (plain_op l.op))) (drop l.index l.pieces) (l.index + 1))

abbrev pub invariant-write_held-loop-region : goal.invariant-write_held-loop-region
invariant-write_held-loop-region l =
    Ahead table_of behind (RegionsSaid l.guide.slots.now l.guide.sizes.now l.regions l.initial.number) (λ m more. held_at l.place.0 l.place.1 (regions_held l.regions l.initial.number m) more)
    (state_of l.initial.page l.initial.notes) (state_of l.page l.notes)
    (RegionsSaid l.guide.slots.now l.guide.sizes.now (drop l.region-index l.regions) l.number) (λ m more. held_at l.left l.place.1 (regions_held (drop l.region-index l.regions) l.number m) more)

abbrev pub invariant-write_held_in-loop-block : goal.invariant-write_held_in-loop-block
invariant-write_held_in-loop-block l =
    Ahead table_of behind (BlocksSaid l.guide.slots.now l.guide.sizes.now l.blocks l.initial.number) (λ m more. held_in l.place (blocks_held l.blocks l.initial.number m) more)
    (state_of l.initial.page l.initial.notes) (state_of l.page l.notes)
    (BlocksSaid l.guide.slots.now l.guide.sizes.now (drop l.block-index l.blocks) l.number) (λ m more. held_in l.left (blocks_held (drop l.block-index l.blocks) l.number m) more)
