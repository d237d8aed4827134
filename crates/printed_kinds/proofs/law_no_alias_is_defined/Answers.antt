use Rattle.printed_kinds.proofs.AliasKinds.{no_alias_is_defined}
use Rattle.printed_kinds.proofs.law_no_alias_is_defined.Goals as goal

pub returns : goal.returns
returns c = no_alias_is_defined
