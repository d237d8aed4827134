use Rattle.std.proofs.Common.{◌∙◌, ap, sym}
use Rattle.plain_tree.specs.Ops.{plain_op}
use Rattle.conversion_model.specs.Conversion.{with_blocks}
use Rattle.new_numbers.specs.Tables.{supply_of}
use Rattle.unit_conversion.proofs.stages.with_blocks.Goals as goal

pub returns-then-blocks-clause-op : goal.returns-then-blocks-clause-op
returns-then-blocks-clause-op c = λ u more.
    c.in_ok-g.ensures.tree u more ∙ ap (λ b. with_blocks b c.args.bits (supply_of u) (plain_op c.args.f)) (sym c.if-blocks.true)
