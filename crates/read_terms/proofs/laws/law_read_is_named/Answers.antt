use Rattle.read_terms.proofs.NamedTexts.{read_is_named}
use Rattle.read_terms.proofs.laws.law_read_is_named.Goals as goal

pub returns : goal.returns
returns c = read_is_named
