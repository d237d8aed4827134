use Rattle.std.proofs.Common.{◌≡◌, ◌++◌, take, drop, map}
use Rattle.text_events.specs.Decoded.{decoded_of}
use Rattle.text_events.specs.Names.{names_from, names_of}
use Rattle.text_events.specs.SeenNames.{Stands}
use Rattle.text_events.proofs.naming.names_by.Given as goal

-- the numbers so far, before those of what is left; the words with escapes that are left; and the names of the words before
abbrev pub invariant-each : goal.invariant-each
invariant-each l = record {
  named : l.found.items ++ names_from l.text l.words l.index (drop l.index l.words) ≡ names_of l.text l.words;
  decoded : map (λ bytes. bytes.items) (drop l.next l.decoded) ≡ decoded_of l.text (drop l.index l.words);
  stands : Stands l.text (take l.index l.words) l.seen;
}
