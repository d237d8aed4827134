use Rattle.std.proofs.Common.{◌≡◌, ◌++◌, take, drop}
use Rattle.text_types.specs.Aliases.{piece}
use Rattle.text_types.proofs.aliases.piece.Given as goal

-- those before, and the piece of what is left, are the piece
abbrev pub invariant-loop-index : goal.invariant-loop-index
invariant-loop-index l = take l.index l.events ++ piece (drop l.index l.events) ≡ piece l.events
