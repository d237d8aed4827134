use Rattle.printed_attrs.proofs.ApartLemmas.{attr_apart, dict_apart}
use Rattle.printed_attrs.proofs.laws.law_attrs_stand_apart.Goals as goal

pub returns : goal.returns
returns c = record { attr = attr_apart; dict = dict_apart }
