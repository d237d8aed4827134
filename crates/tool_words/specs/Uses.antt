-- The forms of words: which options and flags the words use, with which values.
use Rattle.std.specs.Prelude.{ℕ, Bool, true, ◌&&◌, ◌==◌, not, List, [], ◌∷◌, ◌++◌, Option, Some, None, option_and_then, option_map, codes, if◌then◌else◌, find, is_some}
use Rattle.std.specs.List.{list_any, list_all, before_first, after_first}
use Rattle.std.specs.Str.{bytes_eq, is_utf8}

-- an option with its value, or the flag, whose value is empty
pub record Use : Type 0 where
  pub name : List ℕ
  pub value : List ℕ

-- the one flag
abbrev pub flag : List ℕ
flag = codes "allow-unregistered-dialect"

-- what takes a value
abbrev pub options : List (List ℕ)
options = codes "pass-pipeline" ∷ codes "workers" ∷ codes "run" ∷ codes "args" ∷ codes "fuel" ∷ []

abbrev pub is_flag : List ℕ → Bool
is_flag name = bytes_eq flag name

abbrev pub is_option : List ℕ → Bool
is_option name = list_any (λ o. bytes_eq o name) options

-- what stands behind a hyphen (45)
abbrev pub behind_hyphen : List ℕ → Option (List ℕ)
behind_hyphen [] = None
behind_hyphen (b ∷ bs) = if b == 45 then Some bs else None

abbrev pub begins_with_hyphen : List ℕ → Bool
begins_with_hyphen word = is_some (behind_hyphen word)

-- what stands behind the two hyphens with which a word begins
abbrev pub behind_hyphens : List ℕ → Option (List ℕ)
behind_hyphens word = option_and_then behind_hyphen (behind_hyphen word)

abbrev pub is_equals : ℕ → Bool
is_equals b = b == 61

-- 'name=value', of an option: the name ends at the first '='
abbrev pub with_value : List ℕ → Option Use
with_value text =
    if list_any is_equals text && is_option (before_first is_equals text)
    then Some (record { name = before_first is_equals text; value = after_first is_equals text }) else None

-- the flag, or an option with its value behind '='
abbrev pub used_by : List ℕ → Option Use
used_by text = if is_flag text then Some (record { name = flag; value = [] }) else with_value text

-- a use that is one word
abbrev pub one_word : List ℕ → Option Use
one_word word = option_and_then used_by (behind_hyphens word)

-- an option whose value is the next word, which does not begin with a hyphen
abbrev pub with_next : List ℕ → List ℕ → Option Use
with_next value name =
    if is_option name && not (begins_with_hyphen value) then Some (record { name = name; value = value }) else None

-- a use that is two words
abbrev pub two_words : List ℕ → List ℕ → Option Use
two_words word value = option_and_then (with_next value) (behind_hyphens word)

-- a use before those of the words behind it
abbrev pub before : Option Use → Option (List Use) → Option (List Use)
before first uses = option_and_then (λ u. option_map (λ us. u ∷ us) uses) first

-- the word '--', which may stand last
abbrev pub is_end : List ℕ → Bool
is_end word = bytes_eq word (codes "--")

abbrev pub last_uses : List ℕ → Option (List Use)
last_uses word = if is_end word then Some [] else before (one_word word) (Some [])

-- the uses that the words are, in order; none where a word is in no use
abbrev pub uses_of : List (List ℕ) → Option (List Use)
uses_of [] = Some []
uses_of (word ∷ []) = last_uses word
uses_of (word ∷ next ∷ words) =
    if is_some (one_word word) then before (one_word word) (uses_of (next ∷ words)) else before (two_words word next) (uses_of words)

abbrev pub has_name : List ℕ → Use → Bool
has_name name u = bytes_eq u.name name

-- the name is used
abbrev pub has : List ℕ → List Use → Bool
has name uses = list_any (has_name name) uses

-- no use has the name of one before it
abbrev pub once_behind : List Use → List Use → Bool
once_behind front [] = true
once_behind front (u ∷ uses) = not (has u.name front) && once_behind (front ++ u ∷ []) uses

abbrev pub if_once : List Use → Option (List Use)
if_once uses = if once_behind [] uses then Some uses else None

-- the value of an option that is used
abbrev pub value_of : List ℕ → List Use → Option (List ℕ)
value_of name uses = option_map (λ u. u.value) (find (has_name name) uses)

-- what is given for each option, and whether the flag is
pub record Given : Type 0 where
  pub pipeline : Option (List ℕ)
  pub workers : Option (List ℕ)
  pub allowed : Bool
  pub run : Option (List ℕ)
  pub args : Option (List ℕ)
  pub fuel : Option (List ℕ)

abbrev pub given_by : List Use → Given
given_by uses = record {
  pipeline = value_of (codes "pass-pipeline") uses;
  workers = value_of (codes "workers") uses;
  allowed = has flag uses;
  run = value_of (codes "run") uses;
  args = value_of (codes "args") uses;
  fuel = value_of (codes "fuel") uses;
}

-- what words in the right form give, each option and the flag at most once
abbrev pub given_in : List (List ℕ) → Option Given
given_in words = option_map given_by (option_and_then if_once (uses_of words))

-- the same of words that are texts
abbrev pub given : List (List ℕ) → Option Given
given words = if list_all is_utf8 words then given_in words else None
