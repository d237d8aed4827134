use Rattle.std.proofs.Common.{◌≡◌, drop}
use Rattle.number_model.specs.Answers.{with_answer}
use Rattle.number_model.specs.Numbers.{signed}
use Rattle.operation_model.specs.Pures.{indexed}
use Rattle.value_code.specs.Models.{value_of, values_of}
use Rattle.value_code.proofs.elements.indexed.Given as goal

abbrev pub invariant-loop-k : goal.invariant-loop-k
invariant-loop-k l =
    with_answer (signed l.bits) (indexed l.bits (value_of l.m) l.k l.sum (values_of (drop l.k l.xs))) ≡ with_answer (signed l.bits) (indexed l.bits (value_of l.m) 0 l.offset (values_of l.xs))
