-- What a name holds.
use Rattle.std.specs.Prelude.{ℕ, ◌<◌, List}
use Rattle.tree_model.specs.declared.name.Form.{Form}
use Rattle.tree_model.specs.declared.name.Form.TheVariants.{Known, Other}
use Rattle.tree_model.specs.Known.{known_text, known_count, IsUnknown}

-- the bytes of a name
abbrev pub text_of : Form → List ℕ
text_of (Known number) = known_text number
text_of (Other text) = text

-- a known name is held by its number, so each text is held in one way
abbrev pub IsCanonical : Form → Type 0
IsCanonical (Known number) = number < known_count
IsCanonical (Other text) = IsUnknown text
