use Rattle.text_grammar.specs.declared.places.Place.TheVariants as places
use Rattle.printed_types.proofs.TextLemmas.{type_text}
use Rattle.printed_types.proofs.laws.law_text_of_types.Goals as goal

pub returns : goal.returns
returns c = λ inside gap t rest end. type_text inside places.IntegerWord gap t rest end
