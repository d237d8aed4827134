use Rattle.value_code.specs.Models.{looked_of, value_of}
use Rattle.step_code.proofs.PairLaws.{branch_done}
use Rattle.step_code.proofs.pairs.branch_to.Goals as goal

pub returns-in-Some-one_value : goal.returns-in-Some-one_value
returns-in-Some-one_value c = λ env agrees.
    branch_done c.args.op.now (looked_of c.chosen.result) (value_of c.in-Some-one_value.c.now) c.in-Some.two.0 c.in-Some.two.1 c.as_slice-in-Some.result.now c.as_slice.result.now env
    (c.is_bare.ensures c.if-is_bare.true) c.as_slice-in-Some.ensures c.as_slice.ensures c.in-Some.ensures (c.in-Some-one_value.ensures env agrees) c.chosen.ensures
