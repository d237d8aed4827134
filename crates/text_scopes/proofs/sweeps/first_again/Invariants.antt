use Rattle.std.proofs.Common.{◌≡◌, drop, reverse, take}
use Rattle.line_grammar.specs.Language.{first_at}
use Rattle.text_events.proofs.FirstLemmas.{ahead}
use Rattle.text_scopes.specs.Seen.{again, first_again, passed, turns}
use Rattle.text_scopes.specs.Levels.{Stands, levels}
use Rattle.text_scopes.proofs.sweeps.first_again.Given as goal

-- the table stands at the turns before, and what is left decides
abbrev pub invariant-each : goal.invariant-each
invariant-each l =
    let ts = turns l.steps l.events in
    let before = reverse (take l.index ts) in
    Stands l.scopes l.table (levels l.outward before) × (ahead l.index (first_at passed (again l.outward) before (drop l.index ts)) ≡ first_again l.outward ts)
