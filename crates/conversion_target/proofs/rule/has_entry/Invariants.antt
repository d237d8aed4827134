use Rattle.std.proofs.Common.{◌≡◌, drop}
use Rattle.std.specs.List.{list_any}
use Rattle.std.specs.Str.{bytes_eq}
use Rattle.plain_tree.specs.Attrs.{plain_entries}
use Rattle.conversion_target.proofs.rule.has_entry.Given as goal

abbrev pub invariant-each : goal.invariant-each
invariant-each l = list_any (λ e. bytes_eq e.0 l.name) (plain_entries (drop l.entry-index l.entries)) ≡ list_any (λ e. bytes_eq e.0 l.name) (plain_entries l.entries)
