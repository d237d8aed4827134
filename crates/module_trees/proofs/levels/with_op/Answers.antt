use Rattle.std.proofs.Common.{◌≡◌, ◌∷◌, reverse, arith}
use Rattle.std.proofs.lemmas.Grind.{common_steps}
use Rattle.event_trees.specs.Wording.{wording_of}
use Rattle.module_trees.proofs.StepLaws.{op_put}
use Rattle.module_trees.proofs.levels.with_op.Goals as goal

pub returns-clause-is : goal.returns-clause-is
returns-clause-is c =
    let put : reverse c.push.new.self.items ≡ c.in_ok-op.op ∷ reverse c.args.level.ops.items = grind (arith, common_steps) in
    op_put c.args.terms.now.nodes.keys (wording_of c.args.source.now.text.now c.args.source.now.words.now) c.args.role.name c.args.role.number c.args.level c.no_parts.result c.push.new.self.items
    c.in_ok-op.op (c.no_parts.ensures.is c.args.terms.now.nodes.keys) put c.in_ok-op.ensures

pub returns-clause-within : goal.returns-clause-within
returns-clause-within c = c.no_parts.ensures.within _
