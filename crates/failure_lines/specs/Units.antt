-- Failed units of code.
use Rattle.ordered_diags.specs.Failures.{Failure}
use Rattle.failure_lines.specs.declared.texts.FailedUnit.{FailedUnit}

abbrev pub failure_of : FailedUnit → Failure
failure_of u = record {
  function = u.function;
  pass = u.pass;
  function_name = u.function_name.now;
  pass_name = u.pass_name.now;
  operation = u.operation;
  operation_name = u.operation_name.now;
  patterns = u.patterns;
}
