use Rattle.std.proofs.Common.{◌≡◌, map, take}
use Rattle.text_refusals.specs.Classes.{word_class}
use Rattle.text_refusals.proofs.classes.classes.Given as goal

-- those of the words so far
abbrev pub invariant-each : goal.invariant-each
invariant-each l = l.classes.items ≡ map (word_class l.text) (take l.index l.words)
