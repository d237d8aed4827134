use Rattle.std.proofs.Common.{sym}
use Rattle.op_catalog.proofs.Places.{found, found_shape, later, nowhere}
use Rattle.op_catalog.proofs.rows.row.Goals as goal

pub returns-then-place-lt-COUNT-clause-found : goal.returns-then-place-lt-COUNT-clause-found
returns-then-place-lt-COUNT-clause-found c = sym (found c.in-Some.place c.args.name.now c.in-Some.ensures.known c.if-place-lt-COUNT.true)

pub returns-then-place-lt-COUNT-clause-shape : goal.returns-then-place-lt-COUNT-clause-shape
returns-then-place-lt-COUNT-clause-shape c = found_shape c.in-Some.place c.args.name.now c.in-Some.ensures.known c.if-place-lt-COUNT.true

pub returns-else-place-lt-COUNT-clause-found : goal.returns-else-place-lt-COUNT-clause-found
returns-else-place-lt-COUNT-clause-found c = sym (later c.in-Some.place c.args.name.now c.in-Some.ensures.known c.if-place-lt-COUNT.false)

pub returns-in-None-clause-found : goal.returns-in-None-clause-found
returns-in-None-clause-found c = sym (nowhere c.args.name.now c.in-None.ensures.unknown)
