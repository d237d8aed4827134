-- Keys that are converted.
use Rattle.std.specs.Prelude.{ℕ, Option, Some, None}
use Rattle.plain_tree.specs.Types.{PlainType, plain_type, type_tree}
use Rattle.conversion_model.specs.Types.{converted_type}
use Rattle.key_model.specs.declared.key.Key.{Key}
use Rattle.key_model.specs.declared.key.Key.TheVariants.{OfType, OfAttr}

-- the row of a key's type
abbrev pub key_row : ℕ → Key → Option PlainType
key_row bits (OfType t) = converted_type bits (plain_type t)
key_row bits (OfAttr a) = None

abbrev pub key_or_none : Option PlainType → Option Key
key_or_none None = None
key_or_none (Some t) = Some (OfType (type_tree t))
