use Rattle.std.proofs.Common.{◌≡◌, ◌≤◌, length}
use Rattle.std.specs.Io.KnownBytes.{Consumes}
use Rattle.tool_cli.proofs.edges.read_input.Given as goal

-- what was read is what the source has lost, and each turn so far has brought a byte
abbrev pub invariant-reads : goal.invariant-reads
invariant-reads g l = record {
  consumed : Consumes (g.S.Source.left l.fn.input) (g.S.Source.left l.input) l.text.items;
  quiet : g.S.Source.faults l.input ≡ g.S.Source.faults l.fn.input;
  turns : l.counter ≤ length l.text.items;
}
