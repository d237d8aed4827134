use Rattle.std.proofs.Common.{rules}
use Rattle.scf_rows.proofs.TableLaws.{cut_here, no_cut}
use Rattle.scf_rows.proofs.set.ScfRowsCuts.cut.Goals as goal

pub returns-in_ok-pieces-in-Some : goal.returns-in_ok-pieces-in-Some
returns-in_ok-pieces-in-Some c = λ o same new type_of. cut_here c.entries.result.now c.args._bits c.args.at c.in-Some.entry.now c.args.sketch.now c.in_ok-pieces-in-Some.pieces c.entries.ensures.patterns (search rules) c.in_ok-pieces-in-Some.ensures o same new type_of

pub returns-in-None : goal.returns-in-None
returns-in-None c = λ o same new type_of. no_cut c.entries.result.now c.args._bits c.args.at c.entries.ensures.patterns (search rules) o new type_of
