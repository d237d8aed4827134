use Rattle.std.proofs.Common.{◌≡◌, ◌++◌, [], drop, reverse, take}
use Rattle.text_scopes.specs.Seen.{turns}
use Rattle.text_scopes.specs.Levels.{Stands, levels}
use Rattle.text_scopes.specs.Sights.{read, sights}
use Rattle.text_scopes.proofs.resolving.sights.Given as goal

-- the table stands at the turns before; what was seen so far, and what is left, is the whole
abbrev pub invariant-each : goal.invariant-each
invariant-each l =
    let ts = read l.mirrored (turns l.steps l.events) in
    let before = reverse (take l.passed ts) in
    Stands l.scopes l.table (levels l.outward before) × (l.seen.items ++ sights l.outward before (drop l.passed ts) ≡ sights l.outward [] ts)
