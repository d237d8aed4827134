use Rattle.use_kinds.proofs.FlatLaws.{signature_at}
use Rattle.use_kinds.proofs.clashes.signature_at.Goals as goal

pub returns-clause-is : goal.returns-clause-is
returns-clause-is c = λ events same is. signature_at events c.args.count c.args.behind c.args.signatures.now c.number_at.result c.saturating_sub.result same is c.number_at.ensures.is c.saturating_sub.ensures
