use Rattle.std.proofs.Common.{arith, reverse}
use Rattle.std.proofs.lemmas.Grind.{common_steps}
use Rattle.text_types.proofs.StackLaws.{on_ok_is, wrap_is}
use Rattle.text_types.proofs.stack.wrap.Goals as goal

pub returns-clause-stands : goal.returns-clause-stands
returns-clause-stands c =
    on_ok_is c.put.result c.put.new.terms.nodes.keys (reverse c.put.new.stack.items) _ _ c.put.ensures.stands
    (wrap_is c.args.terms.now.nodes.keys c.args.form c.args.value c.in-Some.left (reverse c.pop.new.self.items) (reverse c.args.stack.now.items) (grind (arith, common_steps)))
