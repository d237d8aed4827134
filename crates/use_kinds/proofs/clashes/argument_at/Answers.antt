use Rattle.use_kinds.proofs.FlatLaws.{argument_at}
use Rattle.use_kinds.proofs.clashes.argument_at.Goals as goal

pub returns-clause-is : goal.returns-clause-is
returns-clause-is c = λ events same. argument_at events c.args.count c.args.behind c.min.result same c.min.ensures
