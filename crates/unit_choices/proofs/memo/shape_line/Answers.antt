use Rattle.conversion_target.specs.Targets.{target_of}
use Rattle.row_code.specs.Shapes.{shape_of}
use Rattle.std.proofs.Common.{sym, ◌∙◌}
use Rattle.unit_choices.proofs.MemoLaws.{first_says}
use Rattle.unit_choices.proofs.memo.shape_line.Goals as goal

pub returns : goal.returns
returns g c =
    first_says c.args.pass.now.bits (target_of c.args.pass.now.target.now) (g.R.Rows.table c.args.pass.now.set.now) (shape_of c.args.shape.now) c.order.result.now 0 c.in_ok-line.line (sym c.is_legal.ensures ∙ c.if-is_legal.false) c.in-len1-up.len_at_least
    (c.order.ensures ∙ c.requires c.args.shape.now.name) c.in_ok-line.ensures
