-- Keys, their texts and their shards.
use Rattle.std.specs.Prelude.{ℕ, ◌%◌, List, ◌∷◌}
use Rattle.tree_text.specs.TypeText.{type_text}
use Rattle.tree_text.specs.AttrText.{attr_text}
use Rattle.key_model.specs.Rolled.{rolled}
use Rattle.key_model.specs.declared.key.Key.{Key}
use Rattle.key_model.specs.declared.key.Key.TheVariants.{OfType, OfAttr}

-- the text of a key: `t` and the text of its type, or `a` and that of its attribute
abbrev pub key_text : Key → List ℕ
key_text (OfType t) = 116 ∷ type_text t
key_text (OfAttr a) = 97 ∷ attr_text a

-- the hash of a key's text
abbrev pub key_hash : Key → ℕ
key_hash key = rolled 0 (key_text key)

-- the shard of a key, of so many shards
abbrev pub shard_number : ℕ → Key → ℕ
shard_number shards key = key_hash key % shards
