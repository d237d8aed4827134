use Rattle.std.proofs.Common.{◌≡◌, length, Some, refl}
use Rattle.std.specs.List.{slice_get}
use Rattle.std.proofs.lemmas.Option.{slice_get_read}
use Rattle.step_code.proofs.FindLaws.{block_found, block_passed, block_absent}
use Rattle.step_code.proofs.perform.find_block.Goals as goal

pub returns-then-block-label : goal.returns-then-block-label
returns-then-block-label c =
    let at : slice_get c.args.blocks.now c.loop-block.block-index ≡ Some c.block-item.result =
    slice_get_read c.args.blocks.now (length c.args.blocks.now) c.loop-block.block-index c.block-item.result refl c.loop-block-test.true c.block-item.is in
    block_found c.args.blocks.now c.loop-block.block-index c.block-item.result c.args.label at c.if-block-label.true c.loop-block.invariant

pub loop-block-preserved : goal.loop-block-preserved
loop-block-preserved c =
    let at : slice_get c.args.blocks.now c.loop-block.block-index ≡ Some c.block-item.result =
    slice_get_read c.args.blocks.now (length c.args.blocks.now) c.loop-block.block-index c.block-item.result refl c.loop-block-test.true c.block-item.is in
    block_passed c.args.blocks.now c.loop-block.block-index c.block-item.result c.args.label at c.if-block-label.false c.loop-block.invariant

pub returns : goal.returns
returns c = block_absent c.args.blocks.now c.loop-block.block-index c.args.label c.loop-block-test.false c.loop-block.invariant
