use Rattle.std.proofs.Common.{[]}
use Rattle.text_grammar.specs.declared.parts.Part.TheVariants as parts
use Rattle.printed_attrs.proofs.ReadLemmas.{one_host, attr_read, dict_read}
use Rattle.printed_attrs.proofs.laws.law_attrs_are_read.Goals as goal

pub returns : goal.returns
returns c = record { attr = λ gap a wanted rest r h. attr_read gap a parts.Attr [] wanted rest r one_host h; dict = dict_read }
