-- What the code finds of a text.
use Rattle.text_grammar.specs.declared.cuts.Words.{Words}
use Rattle.text_events.specs.declared.look.Look.{Look}
use Rattle.text_refusals.specs.Refusing.{Seen}

abbrev pub seen_of : Words → Look → Seen
seen_of cut look = record { words = cut.words.items; fault = cut.fault; places = look.places.items; whole = look.whole; refusal = look.refusal }
