use Rattle.std.proofs.Common.{◌≡◌, drop}
use Rattle.plain_tree.specs.Attrs.{entry, plain_entries}
use Rattle.row_code.proofs.props.find.Given as goal

abbrev pub invariant-each : goal.invariant-each
invariant-each l = entry l.name (plain_entries (drop l.entry-index l.entries)) ≡ entry l.name (plain_entries l.entries)
