use Rattle.driver_cases.proofs.TableLaws.{no_cut}
use Rattle.driver_cases.proofs.rows.SampleRowsCuts.cut.Goals as goal

pub returns : goal.returns
returns c = λ o same new type_of. no_cut c.args.self.now.entries.now c.args.bits c.args.at new type_of o
