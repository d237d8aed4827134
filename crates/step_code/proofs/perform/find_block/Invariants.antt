use Rattle.std.proofs.Common.{◌≡◌, drop}
use Rattle.form_model.specs.Codes.{find_block}
use Rattle.run_code.specs.Views.{blocks_of}
use Rattle.step_code.proofs.perform.find_block.Given as goal

abbrev pub invariant-loop-block : goal.invariant-loop-block
invariant-loop-block l = find_block l.label (blocks_of (drop l.block-index l.blocks)) ≡ find_block l.label (blocks_of l.blocks)
