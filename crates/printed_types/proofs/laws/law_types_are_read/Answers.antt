use Rattle.std.proofs.Common.{false, []}
use Rattle.text_grammar.specs.declared.parts.Part.TheVariants as parts
use Rattle.printed_types.proofs.ReadLemmas.{one_has, type_read}
use Rattle.printed_types.proofs.laws.law_types_are_read.Goals as goal

pub returns : goal.returns
returns c = λ gap t wanted rest f h. type_read false gap t parts.OneType [] wanted rest f (one_has false t) h
