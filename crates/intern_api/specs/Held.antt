-- Which key a handle has in the tables of all shards.
use Rattle.std.specs.Prelude.{◌≡◌, ℕ, List, Option, Some, None, slice_get}
use Rattle.key_model.specs.declared.entry.Entry.{Entry}
use Rattle.key_model.specs.declared.entry.Head.{Head}
use Rattle.key_model.specs.declared.handle.Handle.{Handle}
use Rattle.key_model.specs.declared.key.Key.{Key}
use Rattle.key_model.specs.Keys.{shard_number}
use Rattle.key_model.specs.Parts.{head_of, parts_of}
use Rattle.key_model.specs.Stands.{StandsFor}
use Rattle.intern_api.specs.declared.shard_table.ShardTable.{ShardTable}

-- the entry at a place of a table
abbrev pub placed : Option ShardTable → ℕ → Option Entry
placed None place = None
placed (Some t) place = slice_get t.entries.keys place

-- the entry of a handle: that at its place in the table of its shard
abbrev pub entry_in : List ShardTable → Handle → Option Entry
entry_in tables h = placed (slice_get tables h.shard) h.place

-- the children of an entry
abbrev pub children_of : Entry → List Handle
children_of e = e.children

-- the handle is of the key's shard
abbrev pub IsHome : ℕ → Handle → Key → Type 0
IsHome shards h k = h.shard ≡ shard_number shards k

-- the head of an entry
abbrev pub head_in : Entry → Head
head_in e = e.head

-- the handle stands for the key, of so many shards
abbrev pub Known : ℕ → List ShardTable → Handle → Key → Type 0
Known shards tables h k = StandsFor head_in children_of head_of parts_of (IsHome shards) (entry_in tables) h k

-- each entry stands for a key
abbrev pub AreKeys : ℕ → List ShardTable → Type 0
AreKeys shards tables = (h : Handle) (e : Entry) → entry_in tables h ≡ Some e → ∥ ((k : Key) × Known shards tables h k) ∥₁
