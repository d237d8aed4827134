-- The text of an operation is cut where its own lines begin and end.
use Rattle.std.proofs.Common.{arith}
use Rattle.std.proofs.lemmas.Grind.{common_steps}
use Rattle.text_model.proofs.PrintedLemmas.{op_text_at}
use Rattle.generic_printer.specs.NamesIn.{names_in}
use Rattle.generic_printer.proofs.printing.+put_op.Goals as goal

pub put_op-returns : goal.put_op-returns
put_op-returns t c = rw (op_text_at (names_in c.args.table.now) c.args.op.now c.args.indent.now) (grind (arith, common_steps))
