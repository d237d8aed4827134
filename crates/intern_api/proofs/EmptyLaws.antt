-- Empty tables.
use Rattle.std.specs.Prelude.{◌≡◌, ℕ, zero, suc, ◌+◌, List, [], ◌∷◌, ◌++◌, Option, Some, None, slice_get}
use Rattle.std.proofs.Common.{sym, ◌∙◌, ap, inl, inr, length-append}
use Rattle.std.proofs.lemmas.Option.{none-some}
use Rattle.std.proofs.Math.Logic.{∥∥₁_elim}
use Rattle.key_model.specs.declared.entry.Entry.{Entry}
use Rattle.key_model.specs.declared.handle.Handle.{Handle}
use Rattle.key_model.specs.declared.key.Key.{Key}
use Rattle.key_model.specs.Parts.{head_of, parts_of}
use Rattle.key_model.specs.Stands.{IsWithinLevels}
use Rattle.intern_api.specs.declared.shard_table.ShardTable.{ShardTable}
use Rattle.intern_api.specs.Empty.{AreEmpty}
use Rattle.intern_api.specs.Held.{placed, entry_in, IsHome, Known, AreKeys, head_in, children_of}
use Rattle.intern_api.proofs.EntriesLaws.{get_more}

-- one empty table more
pub empty_more : (shards n : ℕ) (cap : Option ℕ) (ts : List ShardTable) (t : ShardTable) → AreEmpty shards n cap ts → t.shard ≡ n → t.shards ≡ shards → t.cap ≡ cap → t.entries.keys ≡ [] → AreEmpty shards (n + 1) cap (ts ++ t ∷ [])
empty_more shards n cap ts t are shard all caps keys = record {
  sized = length-append ts (t ∷ []) ∙ ap (λ m. m + 1) are.sized;
  numbered = λ k u at. elim (get_more ts t k u at) as (λ _. u.shard ≡ k) [ inl was ↦ are.numbered k u was | inr new ↦ sym (ap (λ v. v.shard) new.1) ∙ shard ∙ sym (new.0 ∙ are.sized) ];
  of_all = λ k u at. elim (get_more ts t k u at) as (λ _. u.shards ≡ shards) [ inl was ↦ are.of_all k u was | inr new ↦ sym (ap (λ v. v.shards) new.1) ∙ all ];
  capped = λ k u at. elim (get_more ts t k u at) as (λ _. u.cap ≡ cap) [ inl was ↦ are.capped k u was | inr new ↦ sym (ap (λ v. v.cap) new.1) ∙ caps ];
  empty = λ k u at. elim (get_more ts t k u at) as (λ _. u.entries.keys ≡ []) [ inl was ↦ are.empty k u was | inr new ↦ sym (ap (λ v. v.entries.keys) new.1) ∙ keys ];
}

none_placed : (o : Option ShardTable) (place : ℕ) (e : Entry) → ((t : ShardTable) → o ≡ Some t → t.entries.keys ≡ []) → placed o place ≡ Some e → ⊥
none_placed None place e empty at = none-some e at
none_placed (Some t) place e empty at = none-some e (sym (ap (λ l. slice_get l place) (empty t (λ i. Some t))) ∙ at)

-- in empty tables no handle has an entry
none_in : (shards n : ℕ) (cap : Option ℕ) (ts : List ShardTable) → AreEmpty shards n cap ts → (h : Handle) (e : Entry) → entry_in ts h ≡ Some e → ⊥
none_in shards n cap ts are h e at = none_placed (slice_get ts h.shard) h.place e (λ t is. are.empty h.shard t is) at

pub empty_keys : (shards n : ℕ) (cap : Option ℕ) (ts : List ShardTable) → AreEmpty shards n cap ts → AreKeys shards ts
empty_keys shards n cap ts are h e at = absurd (none_in shards n cap ts are h e at)

none_within : (shards n : ℕ) (cap : Option ℕ) (ts : List ShardTable) → AreEmpty shards n cap ts → (levels : ℕ) (h : Handle) (k : Key) → IsWithinLevels head_in children_of head_of parts_of (IsHome shards) (entry_in ts) levels h k → ⊥
none_within shards n cap ts are zero h k w = w
none_within shards n cap ts are (suc levels) h k w = none_in shards n cap ts are h w.entry w.is

-- so none is known
pub empty_unknown : (shards n : ℕ) (cap : Option ℕ) (ts : List ShardTable) → AreEmpty shards n cap ts → (h : Handle) (k : Key) → ∥ Known shards ts h k ∥₁ → ⊥
empty_unknown shards n cap ts are h k known = ∥∥₁_elim known (λ a b. absurd a) (λ held. none_within shards n cap ts are held.levels h k held.stands)
