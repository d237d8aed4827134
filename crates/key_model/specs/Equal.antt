-- Which keys and entries are one, and what they feed a hasher.
use Rattle.std.specs.Prelude.{◌≡◌, Bool, true}
use Rattle.std.proofs.Common.{ap}
use Rattle.std.specs.Bool.{Decides}
use Rattle.std.specs.Hash as fed
use Rattle.key_model.specs.Alike.{alike_by, alike_by-Decides}
use Rattle.key_model.specs.Keys.{key_hash}
use Rattle.key_model.specs.Digest.{entry_digest}
use Rattle.key_model.specs.declared.key.Key.{Key}
use Rattle.key_model.specs.contracts.key.Key as of_key
use Rattle.key_model.specs.declared.entry.Entry.{Entry}
use Rattle.key_model.specs.contracts.entry.Entry as of_entry

-- whether two keys are one
abbrev pub alike_key : Key → Key → Bool
alike_key = alike_by of_key.the_row.coded

pub alike_key-Decides : (a b : Key) → Decides (alike_key a b) (a ≡ b)
alike_key-Decides = alike_by-Decides of_key.the_row.coded

-- a key feeds the hash of its text
abbrev pub key_writes : Key → fed.HashWrites
key_writes key = fed.u32 (key_hash key)

pub key_respects : (a b : Key) → alike_key a b ≡ true → key_writes a ≡ key_writes b
key_respects a b same = ap key_writes ((alike_key-Decides a b).0 same)

-- whether two entries are one
abbrev pub alike_entry : Entry → Entry → Bool
alike_entry = alike_by of_entry.the_row.coded

pub alike_entry-Decides : (a b : Entry) → Decides (alike_entry a b) (a ≡ b)
alike_entry-Decides = alike_by-Decides of_entry.the_row.coded

-- an entry feeds its digest
abbrev pub entry_writes : Entry → fed.HashWrites
entry_writes entry = fed.u64 (entry_digest entry)

pub entry_respects : (a b : Entry) → alike_entry a b ≡ true → entry_writes a ≡ entry_writes b
entry_respects a b same = ap entry_writes ((alike_entry-Decides a b).0 same)
