-- The lists of keys of all shards, and the tables that stand for them.
use Rattle.std.specs.Prelude.{◌≡◌, ◌<◌, ◌≤◌, ◌==◌, ℕ, List, [], ◌∷◌, ◌++◌, Option, Some, slice_get, length, cond}
use Rattle.std.specs.List.{AllZip}
use Rattle.key_model.specs.declared.entry.Entry.{Entry}
use Rattle.key_model.specs.declared.entry.Head.{Head}
use Rattle.key_model.specs.declared.handle.Handle.{Handle}
use Rattle.key_model.specs.declared.key.Key.{Key}
use Rattle.key_model.specs.Keys.{shard_number}
use Rattle.key_model.specs.Parts.{head_of, parts_of}
use Rattle.key_model.specs.Stands.{StandsFor}

-- the list of a shard, of so many shards: no key stands twice, each is of this shard, and there are no more
-- than the cap, where there is one
pub record ShardOk (shards : ℕ) (cap : Option ℕ) (shard : ℕ) (list : List Key) : Type 0 where
  pub distinct : (i j : ℕ) (k : Key) → slice_get list i ≡ Some k → slice_get list j ≡ Some k → i ≡ j
  pub own : (i : ℕ) (k : Key) → slice_get list i ≡ Some k → shard_number shards k ≡ shard
  pub few : (most : ℕ) → cap ≡ Some most → length list ≤ most

-- the lists of all shards are such lists
abbrev pub AllOk : ℕ → Option ℕ → (ℕ → List Key) → Type 0
AllOk shards cap whole = (shard : ℕ) → ShardOk shards cap shard (whole shard)

-- the key of a handle: that at its place in the list of its shard
abbrev pub key_in : (ℕ → List Key) → Handle → Option Key
key_in whole h = slice_get (whole h.shard) h.place

-- the key stands somewhere in the list
abbrev pub StandsIn : List Key → Key → Type 0
StandsIn list k = (i : ℕ) × (slice_get list i ≡ Some k)

-- each part of the key stands in the list of its shard
abbrev pub PartsStand : ℕ → (ℕ → List Key) → Key → Type 0
PartsStand shards whole k = (i : ℕ) (p : Key) → slice_get (parts_of k) i ≡ Some p → StandsIn (whole (shard_number shards p)) p

-- so do the parts of each key in the lists
abbrev pub ArePartsThere : ℕ → (ℕ → List Key) → Type 0
ArePartsThere shards whole = (shard i : ℕ) (k : Key) → slice_get (whole shard) i ≡ Some k → PartsStand shards whole k

-- the second list begins with the first one
abbrev pub Begins : List Key → List Key → Type 0
Begins old new = (more : List Key) × (new ≡ old ++ more)

-- each list begins with what it was
abbrev pub Grew : (ℕ → List Key) → (ℕ → List Key) → Type 0
Grew old new = (shard : ℕ) → Begins (old shard) (new shard)

-- the lists, with this one for that shard
abbrev pub put : (ℕ → List Key) → ℕ → List Key → ℕ → List Key
put whole shard list s = cond (s == shard) list (whole s)

-- the entry stands for the key: it has the key's head, and its children are the handles of the key's parts
pub record EntryFor (whole : ℕ → List Key) (e : Entry) (k : Key) : Type 0 where
  pub heads : e.head ≡ head_of k
  pub places : AllZip (λ h p. key_in whole h ≡ Some p) e.children (parts_of k)

-- the entries stand for the keys, in order
abbrev pub TableFor : (ℕ → List Key) → List Entry → List Key → Type 0
TableFor whole entries list = AllZip (EntryFor whole) entries list

-- the entry of a handle: that at its place in the table of its shard
abbrev pub entry_at : (ℕ → List Entry) → Handle → Option Entry
entry_at tables h = slice_get (tables h.shard) h.place

-- the handle is of the key's shard
abbrev pub IsHome : ℕ → Handle → Key → Type 0
IsHome shards h k = h.shard ≡ shard_number shards k

abbrev pub head_in : Entry → Head
head_in e = e.head

abbrev pub children_of : Entry → List Handle
children_of e = e.children

-- the handle stands for the key in the tables, and so do the handles of its parts
abbrev pub Stands : ℕ → (ℕ → List Entry) → Handle → Key → Type 0
Stands shards tables h k = StandsFor head_in children_of head_of parts_of (IsHome shards) (entry_at tables) h k
