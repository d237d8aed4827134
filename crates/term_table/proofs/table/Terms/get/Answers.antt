use Rattle.std.proofs.Common.{rules, arith, ◌-◌}
use Rattle.term_table.proofs.TableLaws.{got_some, zero_at}
use Rattle.term_table.proofs.table.Terms.get.Goals as goal

pub returns-then-number-eq0-clause-none : goal.returns-then-number-eq0-clause-none
returns-then-number-eq0-clause-none c = λ within. zero_at c.args.self.now.nodes.keys c.args.number c.if-number-eq0.true

pub returns-clause-some : goal.returns-clause-some
returns-clause-some c = got_some c.args.self.now.nodes.keys c.copied.result (c.args.number - 1) c.args.number c.args.self.now.before (search rules) (omega arith)
