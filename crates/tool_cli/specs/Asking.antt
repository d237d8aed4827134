-- What the words ask for.
use Rattle.std.specs.Prelude.{◌≡◌, ℕ, List}
use Rattle.tool_words.specs.declared.request.Request.{Request}
use Rattle.tool_words.specs.declared.request.WordsRead.TheVariants.{Asked}
use Rattle.tool_words.specs.Reading.{words_read}

-- the words ask for this
abbrev pub AsksFor : List (List ℕ) → Request → Type 0
AsksFor words request = words_read words ≡ Asked request

-- the words ask for something that is done
abbrev pub IsAsked : List (List ℕ) → Type 0
IsAsked words = (request : Request) × AsksFor words request
