-- Lists in a map of names.
use Rattle.std.specs.Prelude.{ℕ, List, [], Option, Some, None}
use Rattle.std.specs.Str.{bytes_eq}
use Rattle.std.specs.Global.{Vec}
use Rattle.std.specs.HashMap.{HashMap, get}

abbrev pub items_or_none : Option (Vec ℕ) → List ℕ
items_or_none None = []
items_or_none (Some v) = v.items

-- the list of a name, which is empty where it has none
abbrev pub listed : {S : Type 0} → HashMap (List ℕ) (Vec ℕ) S → List ℕ → List ℕ
listed lists name = items_or_none (get bytes_eq lists name)
