use Rattle.std.proofs.Common.{Ok, Err, Some, None, sym, ap, ◌∙◌}
use Rattle.mlir_lex.proofs.Outcomes.{read-gives}
use Rattle.mlir_lex.proofs.Lexer.next.Goals as goal

pub returns-in-Ok-Some-clause-gives : goal.returns-in-Ok-Some-clause-gives
returns-in-Ok-Some-clause-gives c =
    (read-gives c.self.inside.text.now c.self.inside.at c.self.inside.fault c.args.self.now (Ok (Some c.in-Ok-Some.token)) c.in_default.is c.self.view_is (sym (ap Ok c.in-Ok-Some.field-0-is) ∙ sym c.in-Ok-Some.is ∙ c.read_first.ensures.first)).0

pub returns-in-Ok-Some-clause-leaves : goal.returns-in-Ok-Some-clause-leaves
returns-in-Ok-Some-clause-leaves c =
    rw c.in_default.is ((read-gives c.self.inside.text.now c.self.inside.at c.self.inside.fault c.args.self.now (Ok (Some c.in-Ok-Some.token)) c.in_default.is c.self.view_is (sym (ap Ok c.in-Ok-Some.field-0-is) ∙ sym c.in-Ok-Some.is ∙ c.read_first.ensures.first)).1)

pub returns-in-Ok-None-clause-gives : goal.returns-in-Ok-None-clause-gives
returns-in-Ok-None-clause-gives c =
    (read-gives c.self.inside.text.now c.self.inside.at c.self.inside.fault c.args.self.now (Ok None) c.in_default.is c.self.view_is (sym (ap Ok c.in-Ok-None.field-0-is) ∙ sym c.in-Ok-None.is ∙ c.read_first.ensures.first)).0

pub returns-in-Ok-None-clause-leaves : goal.returns-in-Ok-None-clause-leaves
returns-in-Ok-None-clause-leaves c =
    (read-gives c.self.inside.text.now c.self.inside.at c.self.inside.fault c.args.self.now (Ok None) c.in_default.is c.self.view_is (sym (ap Ok c.in-Ok-None.field-0-is) ∙ sym c.in-Ok-None.is ∙ c.read_first.ensures.first)).1

pub returns-in-Err-clause-gives : goal.returns-in-Err-clause-gives
returns-in-Err-clause-gives c =
    (read-gives c.self.inside.text.now c.self.inside.at c.self.inside.fault c.args.self.now (Err c.in-Err.fault) c.in_default.is c.self.view_is (sym c.in-Err.is ∙ c.read_first.ensures.first)).0

pub returns-in-Err-clause-leaves : goal.returns-in-Err-clause-leaves
returns-in-Err-clause-leaves c =
    (read-gives c.self.inside.text.now c.self.inside.at c.self.inside.fault c.args.self.now (Err c.in-Err.fault) c.in_default.is c.self.view_is (sym c.in-Err.is ∙ c.read_first.ensures.first)).1
