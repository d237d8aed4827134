-- Which words `clap` is given: texts, of which none begins with one hyphen alone.
use Rattle.std.specs.Prelude.{ℕ, Bool, ◌&&◌, not, List, Option, Some, None, if◌then◌else◌, is_some}
use Rattle.std.specs.Str.{is_utf8}
use Rattle.tool_words.specs.Uses.{begins_with_hyphen, behind_hyphens}

-- the word begins with a hyphen, and not with two
abbrev pub is_short : List ℕ → Bool
is_short word = begins_with_hyphen word && not (is_some (behind_hyphens word))

abbrev pub is_word : List ℕ → Bool
is_word word = not (is_short word) && is_utf8 word

abbrev pub word_or_none : List ℕ → Option (List ℕ)
word_or_none word = if is_word word then Some word else None
