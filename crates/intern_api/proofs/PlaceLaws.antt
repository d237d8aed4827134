-- One table of a list is changed.
use Rattle.std.specs.Prelude.{◌≡◌, ◌⊎◌, ℕ, zero, suc, List, [], ◌∷◌, Option, Some, None, Result, Ok, Err, slice_get, length, IfOk, IfErr, OnErr}
use Rattle.std.proofs.Common.{sym, ◌∙◌, ap, subst, refl, inl, inr, set}
use Rattle.std.proofs.lemmas.Option.{same_Some, none-some}
use Rattle.std.proofs.Math.Logic.{∥∥₁_map}
use Rattle.std.specs.List.{AllZip}
use Rattle.key_model.specs.declared.entry.Entry.{Entry}
use Rattle.key_model.specs.declared.handle.Handle.{Handle}
use Rattle.key_model.specs.declared.key.Key.{Key}
use Rattle.key_model.specs.Keys.{shard_number}
use Rattle.key_model.specs.Parts.{head_of, parts_of}
use Rattle.key_model.specs.Stands.{Grows}
use Rattle.key_model.specs.StandsLaws as laws
use Rattle.intern_api.specs.declared.fault.InternFault.{InternFault}
use Rattle.intern_api.specs.declared.fault.InternFault.TheVariants.{Full, NoMemory}
use Rattle.intern_api.specs.declared.shard_table.ShardTable.{ShardTable}
use Rattle.intern_api.specs.Entries.{IsAbsent, IsPut, IsFaultAt}
use Rattle.intern_api.specs.Held.{placed, entry_in, IsHome, Known, AreKeys, head_in, children_of}
use Rattle.intern_api.specs.Interning.{IsPlaced, IsNoRoom, IsUnchanged}
use Rattle.intern_api.specs.KnownLaws.{exact_handle}

record IsSetAt {X : Type 0} (xs ys : List X) (x y : X) (s j : ℕ) : Type 0 where
  here : j ≡ s
  old : slice_get xs j ≡ Some x
  new : slice_get ys j ≡ Some y

set_at : {X : Type 0} (xs : List X) (s j : ℕ) (x y : X) → slice_get xs s ≡ Some x → IsSetAt xs (set xs s y) x y s j ⊎ (slice_get (set xs s y) j ≡ slice_get xs j)
set_at [] s j x y at = absurd (none-some x at)
set_at (z ∷ xs) zero zero x y at = inl (record { here = refl; old = at; new = refl })
set_at (z ∷ xs) zero (suc j) x y at = inr refl
set_at (z ∷ xs) (suc s) zero x y at = inr refl
set_at (z ∷ xs) (suc s) (suc j) x y at = elim (set_at xs s j x y at) as (λ _. IsSetAt (z ∷ xs) (set (z ∷ xs) (suc s) y) x y (suc s) (suc j) ⊎ (slice_get (set (z ∷ xs) (suc s) y) (suc j) ≡ slice_get (z ∷ xs) (suc j))) [
  | inl r ↦ inl (record { here = ap suc r.here; old = r.old; new = r.new })
  | inr r ↦ inr r
]

set_here : {X : Type 0} (xs : List X) (s : ℕ) (x y : X) → slice_get xs s ≡ Some x → slice_get (set xs s y) s ≡ Some y
set_here [] s x y at = absurd (none-some x at)
set_here (z ∷ xs) zero x y at = refl
set_here (z ∷ xs) (suc s) x y at = set_here xs s x y at

-- what holds of each table, and of the new one, holds of each table after
pub each_set : (P : ℕ → ShardTable → Type 0) (ts : List ShardTable) (s : ℕ) (t t' : ShardTable) → slice_get ts s ≡ Some t → P s t' → ((k : ℕ) (u : ShardTable) → slice_get ts k ≡ Some u → P k u) → (k : ℕ) (u : ShardTable) → slice_get (set ts s t') k ≡ Some u → P k u
each_set P ts s t t' at new old k u now = elim (set_at ts s k t t' at) as (λ _. P k u) [
  | inl r ↦ subst (λ v. P k v) (same_Some t' u (sym r.new ∙ now)) (subst (λ n. P n t') (sym r.here) new)
  | inr r ↦ old k u (sym r ∙ now)
]

at_table : (o : Option ShardTable) (t : ShardTable) (i : ℕ) → o ≡ Some t → placed o i ≡ slice_get t.entries.keys i
at_table o t i e = ap (λ x. placed x i) e

module _ (ts : List ShardTable) (s : ℕ) (t t' : ShardTable) (at : slice_get ts s ≡ Some t) where
  pub grows_set : ((i : ℕ) (f : Entry) → slice_get t.entries.keys i ≡ Some f → slice_get t'.entries.keys i ≡ Some f) → Grows (entry_in ts) (entry_in (set ts s t'))
  grows_set kept h e is = elim (set_at ts s h.shard t t' at) as (λ _. entry_in (set ts s t') h ≡ Some e) [
    | inl r ↦ at_table _ t' h.place r.new ∙ kept h.place e (sym (at_table _ t h.place r.old) ∙ is)
    | inr r ↦ ap (λ x. placed x h.place) r ∙ is
  ]

  pub shrinks_set : ((i : ℕ) (f : Entry) → slice_get t'.entries.keys i ≡ Some f → slice_get t.entries.keys i ≡ Some f) → Grows (entry_in (set ts s t')) (entry_in ts)
  shrinks_set back h e is = elim (set_at ts s h.shard t t' at) as (λ _. entry_in ts h ≡ Some e) [
    | inl r ↦ at_table _ t h.place r.old ∙ back h.place e (sym (at_table _ t' h.place r.new) ∙ is)
    | inr r ↦ sym (ap (λ x. placed x h.place) r) ∙ is
  ]

  pub only_set : (e : Entry) (h : Handle) → h.shard ≡ s → IsPut t.shard t.entries.keys t'.entries.keys e h → (g : Handle) (f : Entry) → entry_in (set ts s t') g ≡ Some f → (entry_in ts g ≡ Some f) ⊎ (g ≡ h)
  only_set e h home put g f is = elim (set_at ts s g.shard t t' at) as (λ _. (entry_in ts g ≡ Some f) ⊎ (g ≡ h)) [
    | inl r ↦ elim (put.only g.place f (sym (at_table _ t' g.place r.new) ∙ is)) as (λ _. (entry_in ts g ≡ Some f) ⊎ (g ≡ h)) [
      | inl was ↦ inl (at_table _ t g.place r.old ∙ was)
      | inr same ↦ inr (exact_handle g h (r.here ∙ sym home) same)
    ]
    | inr r ↦ inl (sym (ap (λ x. placed x g.place) r) ∙ is)
  ]

  pub is_set : (e : Entry) (h : Handle) → h.shard ≡ s → IsPut t.shard t.entries.keys t'.entries.keys e h → entry_in (set ts s t') h ≡ Some e
  is_set e h home put = ap (λ n. placed (slice_get (set ts s t') n) h.place) home ∙ at_table _ t' h.place (set_here ts s t t' at) ∙ put.stands.is

  kept_set : (shards : ℕ) → Grows (entry_in ts) (entry_in (set ts s t')) → (h : Handle) (k : Key) → Known shards ts h k → Known shards (set ts s t') h k
  kept_set shards grows = laws.kept head_in children_of head_of parts_of (IsHome shards) (entry_in ts) (entry_in (set ts s t')) grows

  keys_by : (shards : ℕ) (e : Entry) (h : Handle) (k : Key) → h.shard ≡ s → IsPut t.shard t.entries.keys t'.entries.keys e h → Known shards (set ts s t') h k → AreKeys shards ts → AreKeys shards (set ts s t')
  keys_by shards e h k home put known keys g f is = elim (only_set e h home put g f is) as (λ _. ∥ ((q : Key) × Known shards (set ts s t') g q) ∥₁) [
    | inl was ↦ ∥∥₁_map (keys g f was) (λ r. (r.0, kept_set shards (grows_set put.kept) g r.0 r.1))
    | inr new ↦ ∣ (k, subst (λ x. Known shards (set ts s t') x k) (sym new) known) ∣₁
  ]

  -- each entry stands for a key, where the new one does
  pub keys_set : (shards : ℕ) (e : Entry) (k : Key) (r : Result Handle InternFault) → t.shard ≡ s → s ≡ shard_number shards k → e.head ≡ head_of k → AllZip (Known shards ts) e.children (parts_of k) → IfOk r (IsPut t.shard t.entries.keys t'.entries.keys e) → OnErr r (t'.entries.keys ≡ t.entries.keys) → AreKeys shards ts → AreKeys shards (set ts s t')
  keys_set shards e k (Ok h) own number heads parts put same keys =
      let home : h.shard ≡ s = put.stands.of_shard ∙ own in
      keys_by shards e h k home put (laws.made head_in children_of head_of parts_of (IsHome shards) (entry_in (set ts s t')) h k e (home ∙ number) (is_set e h home put) heads (laws.zip_map (Known shards ts) (Known shards (set ts s t')) (kept_set shards (grows_set put.kept)) e.children (parts_of k) parts)) keys
  keys_set shards e k (Err fault) own number heads parts put same keys = λ g f is. ∥∥₁_map (keys g f (shrinks_set (λ i x at. ap (λ l. slice_get l i) (sym same) ∙ at) g f is)) (λ r. (r.0, kept_set shards (grows_set (λ i x at. ap (λ l. slice_get l i) same ∙ at)) g r.0 r.1))

  pub placed_set : (e : Entry) (r : Result Handle InternFault) → t.shard ≡ s → IfOk r (IsPut t.shard t.entries.keys t'.entries.keys e) → IfOk r (IsPlaced ts (set ts s t') e s)
  placed_set e (Ok h) own put =
      let home : h.shard ≡ s = put.stands.of_shard ∙ own in
      record { of_shard = home; is = is_set e h home put; grows = grows_set put.kept; only = only_set e h home put }
  placed_set e (Err fault) own put = tt

  pub unchanged_set : (r : Result Handle InternFault) → OnErr r (t'.entries.keys ≡ t.entries.keys) → OnErr r (IsUnchanged ts (set ts s t'))
  unchanged_set (Ok h) same = tt
  unchanged_set (Err fault) same = record { grows = grows_set (λ i f is. ap (λ l. slice_get l i) same ∙ is); shrinks = shrinks_set (λ i f is. ap (λ l. slice_get l i) (sym same) ∙ is) }

  pub room_set : (e : Entry) (cap : Option ℕ) (r : Result Handle InternFault) → t.cap ≡ cap → OnErr r (t'.entries.keys ≡ t.entries.keys) → OnErr r (IsAbsent e t.entries.keys) → IfErr r (IsFaultAt t.cap (length t.entries.keys)) → IfErr r (IsNoRoom cap (set ts s t') e s)
  room_set e cap (Ok h) caps same absent fault = tt
  room_set e cap (Err NoMemory) caps same absent fault = tt
  room_set e cap (Err (Full count)) caps same absent fault = (
    sym caps ∙ fault.0 ∙ ap Some (sym fault.1),
    λ u is.
        let one : t' ≡ u = same_Some t' u (sym (set_here ts s t t' at) ∙ is) in
        let keys : u.entries.keys ≡ t.entries.keys = ap (λ v. v.entries.keys) (sym one) ∙ same in
        (ap length keys ∙ sym fault.1, λ i is. absent i (ap (λ l. slice_get l i) (sym keys) ∙ is)),
  )
