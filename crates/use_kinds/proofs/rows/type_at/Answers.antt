use Rattle.use_kinds.proofs.RowLaws.{type_none, type_some}
use Rattle.use_kinds.proofs.rows.type_at.Goals as goal

pub returns-in-None-clause-is : goal.returns-in-None-clause-is
returns-in-None-clause-is c = λ nodes. type_none nodes c.args.items.now c.args.rows.now c.args.event c.args.index c.in-None.ensures.lookup.3

pub returns-in-Some-clause-is : goal.returns-in-Some-clause-is
returns-in-Some-clause-is c = λ nodes.
    type_some nodes c.args.items.now c.args.rows.now c.args.event c.args.index c.in-Some.row.now c.in_row.result c.in-Some.ensures.lookup.3.0 (c.in-Some.ensures.lookup.3.1 c.in-Some.row.now) c.in_row.ensures.is
