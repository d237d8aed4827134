use Rattle.std.proofs.Common.{◌≡◌, drop}
use Rattle.plain_tree.specs.Attrs.{entry, plain_entries}
use Rattle.rule_facts.proofs.entries.entry.Given as goal

abbrev pub invariant-loop-entry : goal.invariant-loop-entry
invariant-loop-entry l = entry l.name (plain_entries (drop l.entry-index l.entries)) ≡ entry l.name (plain_entries l.entries)
