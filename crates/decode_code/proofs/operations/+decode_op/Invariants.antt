use Rattle.std.proofs.Common.{◌≡◌, map, take}
use Rattle.run_code.specs.Views.{block_in_front, op_in_front, region_in_front}
use Rattle.decode_code.specs.CodeBy.{block_by, code_by, region_by}
use Rattle.decode_code.specs.Readings.{reading_of}
use Rattle.decode_code.proofs.operations.+decode_op.Given as goal

abbrev pub invariant-decode_regions-loop-region : goal.invariant-decode_regions-loop-region
invariant-decode_regions-loop-region l = map region_in_front l.list ≡ map (region_by (reading_of l.context)) (take l.region-index l.regions)

abbrev pub invariant-decode_blocks-loop-block : goal.invariant-decode_blocks-loop-block
invariant-decode_blocks-loop-block l = map block_in_front l.list ≡ map (block_by (reading_of l.context)) (take l.block-index l.blocks)

abbrev pub invariant-decode_ops-loop-op : goal.invariant-decode_ops-loop-op
invariant-decode_ops-loop-op l = map op_in_front l.list ≡ map (code_by (reading_of l.context)) (take l.op-index l.ops)
