-- The names that cost no memory, and the hash by which one is found.
use Rattle.std.specs.Prelude.{◌≡◌, ℕ, ◌+◌, ◌*◌, ◌/◌, ◌%◌, ◌^◌, ◌<◌, List, [], get_or, map}
use Rattle.std.specs.List.{fold}
use Rattle.std.specs.Borrow.{Bor}
use Rattle.tree_model.specs.declared.known.TheConstants.{KNOWN}

-- the known names, in order
unfoldable pub known : List (List ℕ)
known = map (λ t. t.now) KNOWN.now

-- how many names are known
abbrev pub known_count : ℕ
known_count = 105

-- the known name at a place
unfoldable pub known_text : ℕ → List ℕ
known_text number = get_or known number []

-- the known name at a place, in a table of texts that may be longer
abbrev pub text_in : List (Bor (List ℕ)) → ℕ → List ℕ
text_in table number = get_or (map (λ t. t.now) table) number []

-- the text is the known name with this number
abbrev pub StandsAt : ℕ → List ℕ → Type 0
StandsAt number text = number < known_count × known_text number ≡ text

-- no known name is the text
pub record IsUnknown (text : List ℕ) : Type 0 where
  pub apart : (number : ℕ) → StandsAt number text → ⊥

-- one byte more in the hash of a text
abbrev pub mixed : ℕ → ℕ → ℕ
mixed hash byte = (hash * 172937 % 2 ^ 32 + byte) % 2 ^ 32

-- the slot of a text
unfoldable pub slot_of : List ℕ → ℕ
slot_of text = fold mixed 0 text / 65536 % 512
