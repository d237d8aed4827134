use Rattle.std.proofs.Common.{◌≡◌, ◌≤◌, ◌-◌, length, take}
use Rattle.std.specs.Io.KnownBytes.{Appends}
use Rattle.tool_cli.proofs.edges.write_all.Given as goal

-- the sink has taken the bytes before `at`
abbrev pub invariant-writes : goal.invariant-writes
invariant-writes g l = record {
  taken : Appends (g.K.Sink.held l.fn.sink) (g.K.Sink.held l.sink) (take l.at l.bytes);
  quiet : g.K.Sink.faults l.sink ≡ g.K.Sink.faults l.fn.sink;
  within : l.at ≤ length l.bytes;
}

abbrev pub decreases-writes : goal.decreases-writes
decreases-writes g l = length l.bytes - l.at
