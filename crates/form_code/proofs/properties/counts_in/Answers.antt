use Rattle.std.proofs.Common.{sym, arith}
use Rattle.form_code.proofs.PropertyLayers.{few, many}
use Rattle.form_code.proofs.properties.counts_in.Goals as goal

pub returns-in_default : goal.returns-in_default
returns-in_default c = sym (few c.args.numbers.now (omega arith))

pub returns-in_default-2 : goal.returns-in_default-2
returns-in_default-2 c = sym (many c.args.numbers.now (omega arith))
