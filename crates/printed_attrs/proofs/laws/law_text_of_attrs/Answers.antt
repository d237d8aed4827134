use Rattle.printed_attrs.proofs.TextLemmas.{attr_is, dict_is}
use Rattle.printed_attrs.proofs.laws.law_text_of_attrs.Goals as goal

pub returns : goal.returns
returns c = record { attr = attr_is; dict = dict_is }
