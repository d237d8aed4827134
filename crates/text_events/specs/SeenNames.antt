-- What the code keeps of the names so far.
use Rattle.std.specs.Prelude.{◌≡◌, ℕ, List, position}
use Rattle.std.specs.Borrow.{Bor}
use Rattle.std.specs.HashMap.{get_by}
use Rattle.std.specs.Str.{bytes_eq}
use Rattle.text_grammar.specs.declared.words.Word.{Word}
use Rattle.text_events.specs.declared.naming.Seen.{Seen}
use Rattle.text_events.specs.Names.{spells}

-- the map has for each spelling the place of the first of the words that has it
abbrev pub Stands : List ℕ → List Word → Seen → Type 0
Stands text words seen = (bytes : Bor (List ℕ)) → get_by (λ key. bytes_eq bytes.now key.now) seen.numbers ≡ position (spells text bytes.now) words
