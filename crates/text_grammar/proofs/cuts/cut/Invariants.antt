use Rattle.std.proofs.Common.{◌≤◌, ◌-◌, length}
use Rattle.text_grammar.specs.Words.{IsSoFar}
use Rattle.text_grammar.proofs.cuts.cut.Given as goal

-- the words so far, before those of what is left, are those of the text
abbrev pub invariant-each : goal.invariant-each
invariant-each l = record { so_far : IsSoFar l.text l.words.items l.mode l.at; within : l.at ≤ length l.text }

abbrev pub decreases-each : goal.decreases-each
decreases-each l = length l.text - l.at
