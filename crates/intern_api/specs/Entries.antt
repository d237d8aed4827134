-- The entries of a shard's table.
use Rattle.std.specs.Prelude.{◌≡◌, ◌⊎◌, ℕ, List, Option, Some, slice_get}
use Rattle.key_model.specs.declared.entry.Entry.{Entry}
use Rattle.key_model.specs.declared.handle.Handle.{Handle}
use Rattle.intern_api.specs.declared.fault.InternFault.{InternFault}
use Rattle.intern_api.specs.declared.fault.InternFault.TheVariants.{Full, NoMemory}

-- no entry stands at two places
abbrev pub AreDistinct : List Entry → Type 0
AreDistinct entries = (i j : ℕ) (e : Entry) → slice_get entries i ≡ Some e → slice_get entries j ≡ Some e → i ≡ j

-- the entry stands nowhere
abbrev pub IsAbsent : Entry → List Entry → Type 0
IsAbsent e entries = (i : ℕ) → slice_get entries i ≡ Some e → ⊥

-- the handle is of the shard, and the entry stands at its place
pub record StandsAt (shard : ℕ) (entries : List Entry) (e : Entry) (h : Handle) : Type 0 where
  pub of_shard : h.shard ≡ shard
  pub is : slice_get entries h.place ≡ Some e

-- the entry stands at the handle, and each other one stands where it stood and nowhere else
pub record IsPut (shard : ℕ) (old new : List Entry) (e : Entry) (h : Handle) : Type 0 where
  pub stands : StandsAt shard new e h
  pub kept : (i : ℕ) (f : Entry) → slice_get old i ≡ Some f → slice_get new i ≡ Some f
  pub only : (i : ℕ) (f : Entry) → slice_get new i ≡ Some f → (slice_get old i ≡ Some f) ⊎ (i ≡ h.place)

-- a table of so many entries is full only where that is its cap
abbrev pub IsFaultAt : Option ℕ → ℕ → InternFault → Type 0
IsFaultAt cap held (Full count) = (cap ≡ Some held) × (count ≡ held)
IsFaultAt cap held NoMemory = Unit {0}
