use Rattle.std.proofs.Common.{arith, reverse}
use Rattle.std.proofs.lemmas.Grind.{common_steps}
use Rattle.text_types.proofs.StackLaws.{stands_put}
use Rattle.text_types.proofs.stack.put.Goals as goal

pub returns-clause-stands : goal.returns-clause-stands
returns-clause-stands c =
    stands_put c.args.terms.now.nodes.keys c.put.new.self.nodes.keys c.in_ok-number.number (reverse c.args.stack.now.items) (reverse c.push.new.self.items) _
    c.in_ok-number.ensures.grows c.in_ok-number.ensures.within c.in_ok-number.ensures.is c.requires.stack (grind (arith, common_steps))
