use Rattle.std.proofs.Common.{◌≡◌, ◌++◌, drop, map}
use Rattle.machine_code.specs.Machines.{call_seen}
use Rattle.run_code.specs.Views.{functions_of}
use Rattle.run_lines.specs.Lines.{call_lines}
use Rattle.run_report.proofs.outcomes.put_calls.Given as goal

abbrev pub invariant-loop-call : goal.invariant-loop-call
invariant-loop-call l =
    l.out ++ call_lines (functions_of l.finder.functions.now) (map call_seen (drop l.call-index l.calls))
    ≡ l.initial.out ++ call_lines (functions_of l.finder.functions.now) (map call_seen l.calls)
