use Rattle.std.proofs.Common.{◌∙◌, ap, rules}
use Rattle.pattern_model.specs.PassTable.{pass_of, patterns_of}
use Rattle.row_code.specs.Shapes.{shape_of, tree_or_none}
use Rattle.row_code.specs.Straight.{straight_at}
use Rattle.pass_rows.proofs.PlaceLaws.{found, missing}
use Rattle.pass_rows.proofs.set.PassRowsRows.line.Goals as goal

pub returns-in_ok-template-in-Some : goal.returns-in_ok-template-in-Some
returns-in_ok-template-in-Some c =
    c.in_ok-template-in-Some.ensures
    ∙ ap (λ p. tree_or_none (straight_at c.args.bits p (shape_of c.args.shape.now))) (found c.parts_of.result.now (patterns_of (pass_of c.args.self.now.pass)) c.args.at c.find.result c.in-Some.place c.parts_of.ensures c.find.ensures (search rules))

pub returns-in-None : goal.returns-in-None
returns-in-None c = ap (λ p. tree_or_none (straight_at c.args.bits p (shape_of c.args.shape.now))) (missing c.parts_of.result.now (patterns_of (pass_of c.args.self.now.pass)) c.args.at c.find.result c.parts_of.ensures c.find.ensures (search rules))
