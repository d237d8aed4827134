-- A handle has one key, and a key one handle.
use Rattle.std.specs.Prelude.{◌≡◌, ℕ, List, Option, Some, None, slice_get}
use Rattle.std.proofs.Common.{sym, ◌∙◌, subst}
use Rattle.std.proofs.lemmas.Option.{none-some}
use Rattle.key_model.specs.declared.entry.Entry.{Entry}
use Rattle.key_model.specs.declared.handle.Handle.{Handle}
use Rattle.key_model.specs.declared.key.Key.{Key}
use Rattle.key_model.specs.Parts.{head_of, parts_of}
use Rattle.key_model.specs.BuildLaws.{exact_key}
use Rattle.key_model.specs.StandsLaws as laws
use Rattle.intern_api.specs.declared.shard_table.ShardTable.{ShardTable}
use Rattle.intern_api.specs.Held.{placed, entry_in, IsHome, Known, head_in, children_of}

pub exact_entry : (e f : Entry) → head_in e ≡ head_in f → children_of e ≡ children_of f → e ≡ f
exact_entry e f heads children = λ i. record { head = heads i; children = children i }

-- a handle is its shard and its place
pub exact_handle : (h g : Handle) → h.shard ≡ g.shard → h.place ≡ g.place → h ≡ g
exact_handle h g shards places = λ i. record { shard = shards i; place = places i }

same_place : (o : Option ShardTable) (i j : ℕ) (e : Entry) → placed o i ≡ Some e → placed o j ≡ Some e → i ≡ j
same_place None i j e at bt = absurd (none-some e at)
same_place (Some t) i j e at bt = t.distinct i j e at bt

-- in one shard an entry stands once
pub one_place : (shards : ℕ) (tables : List ShardTable) (h g : Handle) (k : Key) (e : Entry) → IsHome shards h k → IsHome shards g k → entry_in tables h ≡ Some e → entry_in tables g ≡ Some e → h ≡ g
one_place shards tables h g k e home own at bt =
    let shard : h.shard ≡ g.shard = home ∙ sym own in
    exact_handle h g shard (same_place (slice_get tables g.shard) h.place g.place e (subst (λ s. placed (slice_get tables s) h.place ≡ Some e) shard at) bt)

pub one_handle : (shards : ℕ) (tables : List ShardTable) (h g : Handle) (k : Key) → Known shards tables h k → Known shards tables g k → h ≡ g
one_handle shards tables = laws.one_handle head_in children_of head_of parts_of (IsHome shards) exact_entry exact_key (entry_in tables) (one_place shards tables)

pub one_key : (shards : ℕ) (tables : List ShardTable) (h : Handle) (k l : Key) → Known shards tables h k → Known shards tables h l → k ≡ l
one_key shards tables = laws.one_key head_in children_of head_of parts_of (IsHome shards) exact_entry exact_key (entry_in tables)
