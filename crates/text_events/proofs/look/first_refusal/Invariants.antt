use Rattle.std.proofs.Common.{◌≡◌}
use Rattle.line_grammar.specs.Language.{events}
use Rattle.text_events.specs.Aliases.{Aliases}
use Rattle.text_events.specs.KnownAliases.{Agrees}
use Rattle.text_events.specs.Language.{named, nothing_before}
use Rattle.text_events.specs.Looking.{first_refusal}
use Rattle.text_events.proofs.LookLemmas.{later, left}
use Rattle.text_events.proofs.look.first_refusal.Given as goal

-- what is left decides, behind the aliases of the table
abbrev pub invariant-each : goal.invariant-each
invariant-each l =
    (a : Aliases) × Agrees a l.aliases
    × (later l.index (first_refusal (record { sizes = l.sizes; aliases = a }) (left l.index l.places l.words l.names)) ≡ first_refusal nothing_before (events l.places (named l.words l.names)))
