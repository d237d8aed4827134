use Rattle.std.proofs.Common.{◌∙◌, ap, rules}
use Rattle.pattern_model.specs.PassTable.{pass_of, patterns_of}
use Rattle.cut_code.specs.Pieces.{cutting_at}
use Rattle.pass_rows.proofs.PlaceLaws.{found, missing}
use Rattle.pass_rows.proofs.set.PassRowsCuts.cut.Goals as goal

pub returns-in_ok-pieces-in-Some : goal.returns-in_ok-pieces-in-Some
returns-in_ok-pieces-in-Some c = λ o same new type_of.
    c.in_ok-pieces-in-Some.ensures o same new type_of
    ∙ ap (λ p. cutting_at c.args.bits p new type_of o) (found c.parts_of.result.now (patterns_of (pass_of c.args.self.now.pass)) c.args.at c.find.result c.in-Some.place c.parts_of.ensures c.find.ensures (search rules))

pub returns-in-None : goal.returns-in-None
returns-in-None c = λ o same new type_of. ap (λ p. cutting_at c.args.bits p new type_of o) (missing c.parts_of.result.now (patterns_of (pass_of c.args.self.now.pass)) c.args.at c.find.result c.parts_of.ensures c.find.ensures (search rules))
