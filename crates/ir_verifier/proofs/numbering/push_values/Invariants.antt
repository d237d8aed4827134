use Rattle.std.proofs.Common.{◌≡◌, ◌++◌, drop}
use Rattle.plain_tree.specs.Ops.{plain_values}
use Rattle.rule_model.specs.Words.{numbers}
use Rattle.ir_verifier.proofs.numbering.push_values.Given as goal

abbrev pub invariant-loop-value : goal.invariant-loop-value
invariant-loop-value l = l.found.items ++ numbers (plain_values (drop l.value-index l.values)) ≡ l.initial.found.items ++ numbers (plain_values l.values)
