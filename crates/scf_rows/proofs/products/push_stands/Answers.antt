use Rattle.std.proofs.Common.{◌∙◌, sym, arith}
use Rattle.scf_rows.proofs.LoopLaws.{stands_ended}
use Rattle.scf_rows.proofs.products.push_stands.Goals as goal

pub returns : goal.returns
returns c = sym (stands_ended c.args.results.now c.args.values.now c.each.place c.each.pieces (omega (arith, c.each-test.false, c.min-count.ensures))) ∙ c.each.invariant
