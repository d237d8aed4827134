use Rattle.std.proofs.Common.{◌≡◌, ◌++◌, drop}
use Rattle.number_model.specs.Answers.{with_answer}
use Rattle.operation_model.specs.Values as values
use Rattle.value_code.specs.Models.{values_of}
use Rattle.round_code.proofs.outside.numbers.Given as goal

abbrev pub invariant-loop-v : goal.invariant-loop-v
invariant-loop-v l = with_answer (λ ns. l.all ++ ns) (values.numbers (values_of (drop l.v-index l.vs))) ≡ values.numbers (values_of l.vs)
