-- What holds of the lists of keys and of the tables that stand for them.
use Rattle.std.specs.Prelude.{◌≡◌, ◌<◌, ◌↔◌, ℕ, List, [], ◌∷◌, ◌++◌, Option, Some, slice_get, length}
use Rattle.key_model.specs.declared.entry.Entry.{Entry}
use Rattle.key_model.specs.declared.handle.Handle.{Handle}
use Rattle.key_model.specs.declared.key.Key.{Key}
use Rattle.key_model.specs.Keys.{shard_number}
use Rattle.shard_model.specs.Shards.{ShardOk, AllOk, key_in, PartsStand, ArePartsThere, Grew, put, EntryFor, TableFor, Stands}

-- a key stands at one handle
abbrev pub OneHandle : Type 0
OneHandle = (shards : ℕ) (cap : Option ℕ) (whole : ℕ → List Key) (h g : Handle) (k : Key)
    → AllOk shards cap whole → key_in whole h ≡ Some k → key_in whole g ≡ Some k → h ≡ g

-- a key has one entry
abbrev pub OneEntry : Type 0
OneEntry = (shards : ℕ) (cap : Option ℕ) (whole : ℕ → List Key) (e f : Entry) (k : Key)
    → AllOk shards cap whole → EntryFor whole e k → EntryFor whole f k → e ≡ f

-- an entry has one key
abbrev pub OneKey : Type 0
OneKey = (whole : ℕ → List Key) (e : Entry) (k l : Key) → EntryFor whole e k → EntryFor whole e l → k ≡ l

-- a handle keeps its key
abbrev pub KeysStay : Type 0
KeysStay = (old new : ℕ → List Key) (h : Handle) (k : Key) → Grew old new → key_in old h ≡ Some k → key_in new h ≡ Some k

-- an entry stands for its key
abbrev pub EntriesStay : Type 0
EntriesStay = (old new : ℕ → List Key) (e : Entry) (k : Key) → Grew old new → EntryFor old e k → EntryFor new e k

-- a table stands for its list
abbrev pub TablesStay : Type 0
TablesStay = (old new : ℕ → List Key) (entries : List Entry) (list : List Key) → Grew old new → TableFor old entries list → TableFor new entries list

-- a list stays one of its shard behind a key of it that isn't there, where there is room
abbrev pub AppendKeepsLists : Type 0
AppendKeepsLists = (shards : ℕ) (cap : Option ℕ) (shard : ℕ) (list : List Key) (k : Key)
    → ShardOk shards cap shard list → shard_number shards k ≡ shard → ((i : ℕ) → slice_get list i ≡ Some k → ⊥)
    → ((most : ℕ) → cap ≡ Some most → length list < most) → ShardOk shards cap shard (list ++ k ∷ [])

-- a table stands for the longer list behind an entry that stands for the key
abbrev pub AppendKeepsTables : Type 0
AppendKeepsTables = (whole : ℕ → List Key) (entries : List Entry) (list : List Key) (e : Entry) (k : Key)
    → TableFor whole entries list → EntryFor whole e k → TableFor whole (entries ++ e ∷ []) (list ++ k ∷ [])

-- the parts of each key stay in the lists, behind a key whose parts are there
abbrev pub AppendKeepsParts : Type 0
AppendKeepsParts = (shards : ℕ) (whole : ℕ → List Key) (shard : ℕ) (k : Key)
    → ArePartsThere shards whole → PartsStand shards whole k → ArePartsThere shards (put whole shard (whole shard ++ k ∷ []))

-- a table has the entry of a key at a place exactly where the list has the key
abbrev pub FindsExactly : Type 0
FindsExactly = (shards : ℕ) (cap : Option ℕ) (whole : ℕ → List Key) (entries : List Entry) (list : List Key) (e : Entry) (k : Key) (i : ℕ)
    → AllOk shards cap whole → TableFor whole entries list → EntryFor whole e k → (slice_get entries i ≡ Some e) ↔ (slice_get list i ≡ Some k)

-- the handle of a place stands for the key at that place
abbrev pub StandsAtPlace : Type 0
StandsAtPlace = (shards : ℕ) (cap : Option ℕ) (whole : ℕ → List Key) (tables : ℕ → List Entry) (h : Handle) (k : Key)
    → AllOk shards cap whole → ((shard : ℕ) → TableFor whole (tables shard) (whole shard)) → key_in whole h ≡ Some k → Stands shards tables h k
