use Rattle.ir_arena.specs.Building.{nodes_of}
use Rattle.ir_arena.proofs.FinishLaws.{root_inside, shows_at_last}
use Rattle.ir_arena.proofs.func.Func.from_tree.Goals as goal

pub finished-requires-clause-root : goal.finished-requires-clause-root
finished-requires-clause-root g c = root_inside (g.I.Interner.holds c.build_op.new.i) c.in_ok-n.n (nodes_of c.build_op.new.b) c.in_ok-root.root c.args.tree.now.op c.in_ok-root.ensures.shows

pub returns-in-Some-clause-shows : goal.returns-in-Some-clause-shows
returns-in-Some-clause-shows g c = shows_at_last (g.I.Interner.holds c.build_op.new.i) c.in_ok-n.n (nodes_of c.build_op.new.b) c.in-Some.f.flat c.in_ok-root.root c.args.tree.now c.in-Some.ensures c.in_ok-root.ensures.shows
