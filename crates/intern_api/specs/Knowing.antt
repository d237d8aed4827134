-- What an interner with a map of recent handles knows.
use Rattle.std.specs.Prelude.{◌≡◌, ◌⊎◌, List, [], ◌∷◌, Some}
use Rattle.std.specs.HashMap.{HashMap, get}
use Rattle.key_model.specs.declared.handle.Handle.{Handle}
use Rattle.key_model.specs.declared.key.Key.{Key}
use Rattle.key_model.specs.Equal.{alike_key}
use Rattle.intern_api.specs.declared.tables.Tables.{Tables}
use Rattle.intern_api.specs.Interning.{Holds, Extends}

-- the handle has the key, of however many levels
abbrev pub Knows : Tables → Handle → Key → Type 0
Knows p h k = ∥ Holds p h k ∥₁

-- what the map gives for a key is a handle that has it
abbrev pub AreKnown : {S : Type 0} → Tables → HashMap Key Handle S → Type 0
AreKnown p recent = (k : Key) (h : Handle) → get alike_key recent k ≡ Some h → Knows p h k

-- what the new map gives for a key is what the old one gave, or this handle for this key
abbrev pub Remembers : {S : Type 0} → HashMap Key Handle S → HashMap Key Handle S → Key → Handle → Type 0
Remembers old new key handle = (k : Key) (h : Handle) → get alike_key new k ≡ Some h → (get alike_key old k ≡ Some h) ⊎ ((k ≡ key) × (h ≡ handle))

-- the new map gives nothing that the old one didn't
abbrev pub Forgets : {S : Type 0} → HashMap Key Handle S → HashMap Key Handle S → Type 0
Forgets old new = (k : Key) (h : Handle) → get alike_key new k ≡ Some h → get alike_key old k ≡ Some h

-- the key and its parts were added where they were not known, and the handle has the key
pub record Interns (p p' : Tables) (k : Key) (h : Handle) : Type 0 where
  pub extends : Extends p p' (k ∷ [])
  pub known : Knows p' h k
