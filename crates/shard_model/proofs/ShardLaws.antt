-- What holds of the lists of keys and of the tables that stand for them.
use Rattle.std.specs.Prelude.{◌≡◌, ◌<◌, ◌⊎◌, ◌==◌, ◌↔◌, ℕ, Bool, true, false, cond, List, [], ◌∷◌, ◌++◌, Option, Some, slice_get, length}
use Rattle.std.specs.List.{AllZip}
use Rattle.std.proofs.Common.{sym, ◌∙◌, ap, subst, refl, inl, inr, arith, length-append}
use Rattle.std.proofs.lemmas.List.{append-nil}
use Rattle.std.proofs.lemmas.Option.{same_Some}
use Rattle.std.specs.Cmp.{unsigned_Decides}
use Rattle.key_model.specs.declared.entry.Entry.{Entry}
use Rattle.key_model.specs.declared.handle.Handle.{Handle}
use Rattle.key_model.specs.declared.key.Key.{Key}
use Rattle.key_model.specs.Keys.{shard_number}
use Rattle.key_model.specs.Parts.{head_of, parts_of}
use Rattle.key_model.specs.BuildLaws.{exact_key}
use Rattle.key_model.specs.StandsLaws as laws
use Rattle.shard_model.specs.Shards.{ShardOk, AllOk, key_in, StandsIn, PartsStand, ArePartsThere, Begins, Grew, put, EntryFor, TableFor, entry_at, IsHome, head_in, children_of, Stands}
use Rattle.shard_model.specs.Promises.{OneHandle, OneEntry, OneKey, KeysStay, EntriesStay, TablesStay, AppendKeepsLists, AppendKeepsTables, AppendKeepsParts, FindsExactly, StandsAtPlace}
use Rattle.shard_model.proofs.Places.{at_left, at_more, zip_more, zip_there, zip_here, zip_each}
use Rattle.shard_model.proofs.Finite.{IsFinite, finite, finite_key}

-- a handle is its shard and its place
same_handle : (h g : Handle) → h.shard ≡ g.shard → h.place ≡ g.place → h ≡ g
same_handle h g shards places = λ i. record { shard = shards i; place = places i }

-- a handle that has a key has the key's shard
home_of : (shards : ℕ) (cap : Option ℕ) (whole : ℕ → List Key) (h : Handle) (k : Key) → AllOk shards cap whole → key_in whole h ≡ Some k → h.shard ≡ shard_number shards k
home_of shards cap whole h k ok at = sym ((ok h.shard).own h.place k at)

pub one_handle : OneHandle
one_handle shards cap whole h g k ok at bt =
    let shard : h.shard ≡ g.shard = home_of shards cap whole h k ok at ∙ sym (home_of shards cap whole g k ok bt) in
    same_handle h g shard ((ok g.shard).distinct h.place g.place k (subst (λ s. slice_get (whole s) h.place ≡ Some k) shard at) bt)

pub one_entry : OneEntry
one_entry shards cap whole e f k ok a b =
    let heads : e.head ≡ f.head = a.heads ∙ sym b.heads in
    let children : e.children ≡ f.children = laws.zip_left _ _ (λ h g p at bt. one_handle shards cap whole h g p ok at bt) e.children f.children (parts_of k) a.places b.places in
    λ i. record { head = heads i; children = children i }

pub one_key : OneKey
one_key whole e k l a b = exact_key k l (sym a.heads ∙ b.heads) (laws.zip_right _ _ (λ h p q at bt. same_Some p q (sym at ∙ bt)) e.children (parts_of k) (parts_of l) a.places b.places)

at_begins : (old new : List Key) (i : ℕ) (k : Key) → Begins old new → slice_get old i ≡ Some k → slice_get new i ≡ Some k
at_begins old new i k begins at = ap (λ l. slice_get l i) begins.1 ∙ at_left old begins.0 i k at

pub keys_stay : KeysStay
keys_stay old new h k grew at = at_begins (old h.shard) (new h.shard) h.place k (grew h.shard) at

pub entries_stay : EntriesStay
entries_stay old new e k grew for = record { heads = for.heads; places = laws.zip_map (λ h p. key_in old h ≡ Some p) (λ h p. key_in new h ≡ Some p) (λ h p at. keys_stay old new h p grew at) e.children (parts_of k) for.places }

pub tables_stay : TablesStay
tables_stay old new entries list grew table = laws.zip_map (EntryFor old) (EntryFor new) (λ e k for. entries_stay old new e k grew for) entries list table

pub append_keeps_lists : AppendKeepsLists
append_keeps_lists shards cap shard list k ok own absent room = record {
  distinct = λ i j q at bt. elim (at_more list k i q at) as (λ _. i ≡ j) [
    | inl was ↦ elim (at_more list k j q bt) as (λ _. i ≡ j) [
      | inl wbs ↦ ok.distinct i j q was wbs
      | inr new ↦ absurd (absent i (was ∙ ap Some (sym new.1)))
    ]
    | inr new ↦ elim (at_more list k j q bt) as (λ _. i ≡ j) [
      | inl wbs ↦ absurd (absent j (wbs ∙ ap Some (sym new.1)))
      | inr mew ↦ new.0 ∙ sym mew.0
    ]
  ];
  own = λ i q at. elim (at_more list k i q at) as (λ _. shard_number shards q ≡ shard) [
    | inl was ↦ ok.own i q was
    | inr new ↦ ap (shard_number shards) (sym new.1) ∙ own
  ];
  few = λ most is. omega (arith, length-append list (k ∷ []), room most is);
}

pub append_keeps_tables : AppendKeepsTables
append_keeps_tables whole entries list e k table for = zip_more (EntryFor whole) entries list e k table for

-- by whether the shard is that of the longer list
put_begins : (b : Bool) (old : List Key) (k : Key) (list : List Key) → (b ≡ true → list ≡ old ++ k ∷ []) → Begins old (cond b list old)
put_begins true old k list is = (k ∷ [], is refl)
put_begins false old k list is = ([], sym (append-nil old))

stands_on : (old new : List Key) (k : Key) → Begins old new → StandsIn old k → StandsIn new k
stands_on old new k begins stands = (stands.0, at_begins old new stands.0 k begins stands.1)

put_grew : (whole : ℕ → List Key) (shard : ℕ) (k : Key) → Grew whole (put whole shard (whole shard ++ k ∷ []))
put_grew whole shard k s = put_begins (s == shard) (whole s) k (whole shard ++ k ∷ []) (λ e. ap (λ x. whole x ++ k ∷ []) (sym ((unsigned_Decides s shard).0 e)))

put_item : (b : Bool) (old : List Key) (k : Key) (list : List Key) (i : ℕ) (q : Key) → (b ≡ true → list ≡ old ++ k ∷ []) → slice_get (cond b list old) i ≡ Some q → (slice_get old i ≡ Some q) ⊎ (k ≡ q)
put_item true old k list i q is at = elim (at_more old k i q (ap (λ l. slice_get l i) (sym (is refl)) ∙ at)) as (λ _. (slice_get old i ≡ Some q) ⊎ (k ≡ q)) [ inl was ↦ inl was | inr new ↦ inr new.1 ]
put_item false old k list i q is at = inl at

parts_on : (shards : ℕ) (old new : ℕ → List Key) (k : Key) → Grew old new → PartsStand shards old k → PartsStand shards new k
parts_on shards old new k grew parts i p at = stands_on (old (shard_number shards p)) (new (shard_number shards p)) p (grew (shard_number shards p)) (parts i p at)

pub append_keeps_parts : AppendKeepsParts
append_keeps_parts shards whole shard k there parts s i q at =
    let new : ℕ → List Key = put whole shard (whole shard ++ k ∷ []) in
    elim (put_item (s == shard) (whole s) k (whole shard ++ k ∷ []) i q (λ e. ap (λ x. whole x ++ k ∷ []) (sym ((unsigned_Decides s shard).0 e))) at) as (λ _. PartsStand shards new q) [
      | inl was ↦ parts_on shards whole new q (put_grew whole shard k) (there s i q was)
      | inr same ↦ subst (PartsStand shards new) same (parts_on shards whole new k (put_grew whole shard k) parts)
    ]

pub finds_exactly : FindsExactly
finds_exactly shards cap whole entries list e k i ok table for = (
  λ at. let hit : (q : Key) × (slice_get list i ≡ Some q) × EntryFor whole e q = zip_here (EntryFor whole) entries list i e table at in
      hit.1 ∙ ap Some (one_key whole e hit.0 k hit.2 for),
  λ at. let hit : (f : Entry) × (slice_get entries i ≡ Some f) × EntryFor whole f k = zip_there (EntryFor whole) entries list i k table at in
      hit.1 ∙ ap Some (one_entry shards cap whole hit.0 e k ok hit.2 for),
)

module _ (shards : ℕ) (cap : Option ℕ) (whole : ℕ → List Key) (tables : ℕ → List Entry) (ok : AllOk shards cap whole) (tied : (shard : ℕ) → TableFor whole (tables shard) (whole shard)) where
  stands_by : {k : Key} → IsFinite k → (h : Handle) → key_in whole h ≡ Some k → Stands shards tables h k
  stands_by (finite k parts) h at =
      let hit : (e : Entry) × (slice_get (tables h.shard) h.place ≡ Some e) × EntryFor whole e k = zip_there (EntryFor whole) (tables h.shard) (whole h.shard) h.place k (tied h.shard) at in
      laws.made head_in children_of head_of parts_of (IsHome shards) (entry_at tables) h k hit.0 (home_of shards cap whole h k ok at) hit.1 hit.2.heads
      (zip_each (λ c p. key_in whole c ≡ Some p) (Stands shards tables) (children_of hit.0) (parts_of k) (λ i c p is. λ there. stands_by (parts i p is) c there) hit.2.places)

pub stands_at_place : StandsAtPlace
stands_at_place shards cap whole tables h k ok tied at = stands_by shards cap whole tables ok tied (finite_key k) h at
