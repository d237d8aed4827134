use Rattle.std.proofs.Common.{◌≡◌, drop, map}
use Rattle.plain_tree.specs.Ops.{blocks_in}
use Rattle.unit_writer.specs.Pages.{block_plain}
use Rattle.unit_writer.specs.Sizes.{behind_blocks}
use Rattle.unit_writer.proofs.guide.Guide.behind_blocks.Given as goal

abbrev pub invariant-loop-block : goal.invariant-loop-block
invariant-loop-block l = behind_blocks l.self.sizes.now l.number (blocks_in (map block_plain (drop l.block-index l.blocks))) ≡ behind_blocks l.self.sizes.now l.initial.number (blocks_in (map block_plain l.blocks))
