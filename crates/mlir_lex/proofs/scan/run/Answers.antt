-- The bytes that were counted are those from the front on that pass the test.
use Rattle.std.proofs.Common.{rules, sym, ap, ◌∙◌, length}
use Rattle.std.proofs.lemmas.List.{length-map}
use Rattle.std.proofs.lemmas.Iterator.{YieldsList-from_slice, items_from_drains}
use Rattle.std.proofs.lemmas.Iterator.Search.{YieldsList-from_take_while}
use Rattle.mlir_lex.specs.Scan.{run}
use Rattle.mlir_lex.proofs.scan.run.Goals as goal

pub returns-clause-run : goal.returns-clause-run
unfolding run
returns-clause-run g c = λ class tests.
    let (bytes, (after, (at_end, yields, stop)), count) = c.count.ensures.ran in
    let same = items_from_drains bytes (at_end, yields, λ _. (after, stop))
    (YieldsList-from_take_while {s = c.take_while.result} _ class (YieldsList-from_slice c.args.text.now (search rules)) c.take_while.ensures.closure c.take_while.ensures.done
    (λ b is left k. (search rules, tests b.now is (search rules)))) in
    count ∙ sym (length-map bytes (λ b. b.now)) ∙ ap length same
