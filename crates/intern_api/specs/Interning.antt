-- What an interner makes of a key.
use Rattle.std.specs.Prelude.{◌≡◌, ◌⊎◌, ℕ, List, [], ◌∷◌, ◌++◌, Option, Some, None, slice_get, length}
use Rattle.std.specs.List.{AllZip}
use Rattle.key_model.specs.declared.entry.Entry.{Entry}
use Rattle.key_model.specs.declared.handle.Handle.{Handle}
use Rattle.key_model.specs.declared.key.Key.{Key}
use Rattle.key_model.specs.Keys.{shard_number}
use Rattle.key_model.specs.Parts.{head_of, parts_of, IsWithin}
use Rattle.key_model.specs.Stands.{Grows}
use Rattle.intern_api.specs.declared.fault.InternFault.{InternFault}
use Rattle.intern_api.specs.declared.fault.InternFault.TheVariants.{Full, NoMemory}
use Rattle.intern_api.specs.declared.shard_table.ShardTable.{ShardTable}
use Rattle.intern_api.specs.declared.tables.Tables.{Tables}
use Rattle.intern_api.specs.Entries.{IsAbsent}
use Rattle.intern_api.specs.Held.{entry_in, Known}

-- the handle has the key
abbrev pub Holds : Tables → Handle → Key → Type 0
Holds p h k = Known p.shards p.list.items h k

-- the key is one of these, or a part of one, or a part of a part
pub record IsInOne (q : Key) (ks : List Key) : Type 0 where
  pub key : Key
  pub at : ℕ
  pub is : slice_get ks at ≡ Some key
  pub within : IsWithin q key

-- these keys and their parts were added, or some of them, and nothing else: each entry stands where it
-- stood, each other one stands for a key that is in one of these, and each key that a handle has is one
-- that it had, or is in one of these
pub record Extends (p p' : Tables) (ks : List Key) : Type 0 where
  pub shards : p'.shards ≡ p.shards
  pub cap : p'.cap ≡ p.cap
  pub grows : Grows (entry_in p.list.items) (entry_in p'.list.items)
  pub fresh : (h : Handle) (e : Entry) → entry_in p'.list.items h ≡ Some e → (entry_in p.list.items h ≡ Some e) ⊎ ((q : Key) × Holds p' h q × IsInOne q ks)
  pub only : (h : Handle) (q : Key) → Holds p' h q → Holds p h q ⊎ IsInOne q ks

-- no handle has the key, and its shard holds as many keys as it may, which is so many
pub record IsFull (p : Tables) (count : ℕ) (k : Key) : Type 0 where
  pub cap : p.cap ≡ Some count
  pub absent : (h : Handle) → Holds p h k → ⊥
  pub full : (t : ShardTable) → slice_get p.list.items (shard_number p.shards k) ≡ Some t → length t.entries.keys ≡ count

-- a shard is full only for want of room for one of these keys or of their parts
abbrev pub IsFaultFor : Tables → List Key → InternFault → Type 0
IsFaultFor p ks (Full count) = (k : Key) × IsInOne k ks × IsFull p count k
IsFaultFor p ks NoMemory = Unit {0}

-- the key was added, and the handle has it; this is told with the levels of the key
pub record Gives (p p' : Tables) (k : Key) (h : Handle) : Type 0 where
  pub extends : Extends p p' (k ∷ [])
  pub held : Holds p' h k

-- the keys were added, and their handles stand behind those that were there
pub record Gathers (p p' : Tables) (hs hs' : List Handle) (ks : List Key) : Type 0 where
  pub extends : Extends p p' ks
  pub more : List Handle
  pub behind : hs' ≡ hs ++ more
  pub held : AllZip (Holds p') more ks

-- some of the keys or of their parts were added, and then there was a fault
pub record Stops (p p' : Tables) (ks : List Key) (fault : InternFault) : Type 0 where
  pub extends : Extends p p' ks
  pub cause : IsFaultFor p' ks fault

-- the entry stands at the handle, which is of the shard, and nothing else is new
pub record IsPlaced (ts ts' : List ShardTable) (e : Entry) (shard : ℕ) (h : Handle) : Type 0 where
  pub of_shard : h.shard ≡ shard
  pub is : entry_in ts' h ≡ Some e
  pub grows : Grows (entry_in ts) (entry_in ts')
  pub only : (g : Handle) (f : Entry) → entry_in ts' g ≡ Some f → (entry_in ts g ≡ Some f) ⊎ (g ≡ h)

-- the shard is full, and the entry isn't in it
abbrev pub IsNoRoom : Option ℕ → List ShardTable → Entry → ℕ → InternFault → Type 0
IsNoRoom cap ts e shard (Full count) = (cap ≡ Some count) × ((t : ShardTable) → slice_get ts shard ≡ Some t → (length t.entries.keys ≡ count) × IsAbsent e t.entries.keys)
IsNoRoom cap ts e shard NoMemory = Unit {0}

-- nothing is new
pub record IsUnchanged (ts ts' : List ShardTable) : Type 0 where
  pub grows : Grows (entry_in ts) (entry_in ts')
  pub shrinks : Grows (entry_in ts') (entry_in ts)

-- the entry is that of a key of the shard, and its children have the key's parts
pub record IsEntryOf (p : Tables) (e : Entry) (shard : ℕ) : Type 0 where
  pub key : Key
  pub heads : e.head ≡ head_of key
  pub parts : AllZip (Holds p) e.children (parts_of key)
  pub own : shard ≡ shard_number p.shards key
