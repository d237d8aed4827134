use Rattle.tool_words.proofs.Fuel.{little_fuel}
use Rattle.tool_words.proofs.laws.law_little_fuel.Goals as goal

pub returns : goal.returns
returns c = little_fuel
