-- How what an interner makes of keys follows step by step.
use Rattle.std.specs.Prelude.{◌≡◌, ◌⊎◌, ◌<◌, ◌%◌, ℕ, zero, suc, List, [], ◌∷◌, ◌++◌, Some, None, Result, Ok, Err, IfOk, IfErr, OnOk, OnErr, slice_get, length, map}
use Rattle.std.specs.List.{AllZip}
use Rattle.std.proofs.Common.{sym, ◌∙◌, ap, subst, refl, inl, inr, append_assoc, arith, get_or, take, drop}
use Rattle.std.proofs.lemmas.List.{append-nil, map-append}
use Rattle.std.proofs.lemmas.Nat.{mod_below}
use Rattle.std.proofs.Math.Logic.{∥∥₁_elim}
use Rattle.std.proofs.lemmas.Option.{same_Some, none-some}
use Rattle.key_model.specs.declared.entry.Entry.{Entry}
use Rattle.key_model.specs.declared.handle.Handle.{Handle}
use Rattle.key_model.specs.declared.key.Key.{Key}
use Rattle.key_model.specs.declared.key.Key.TheVariants.{OfType, OfAttr}
use Rattle.tree_model.specs.declared.type_tree.TypeTree.{TypeTree, out-TypeTree}
use Rattle.tree_model.specs.declared.type_tree.TypeTree as type
use Rattle.tree_model.specs.declared.type_tree.TypeTree.TheVariants as type_parts
use Rattle.tree_model.specs.declared.attr_tree.AttrTree.{AttrTree}
use Rattle.key_model.specs.Keys.{shard_number, key_hash}
use Rattle.key_model.specs.Parts.{head_of, parts_of, values_of, types_of, itself, part}
use Rattle.key_model.specs.Stands.{IsWithinLevels, Grows, AreClosed}
use Rattle.key_model.specs.StandsLaws as laws
use Rattle.intern_api.specs.declared.fault.InternFault.{InternFault}
use Rattle.intern_api.specs.declared.fault.InternFault.TheVariants.{Full, NoMemory}
use Rattle.intern_api.specs.declared.shard_table.ShardTable.{ShardTable}
use Rattle.intern_api.specs.declared.tables.Tables.{Tables}
use Rattle.intern_api.specs.Entries.{IsAbsent}
use Rattle.intern_api.specs.Held.{placed, entry_in, Known, IsHome, head_in, children_of}
use Rattle.intern_api.specs.KnownLaws.{one_handle, one_key, exact_entry}
use Rattle.intern_api.specs.Interning.{Holds, IsInOne, Extends, IsFaultFor, Gives, Gathers, Stops, IsPlaced, IsNoRoom, IsUnchanged, IsEntryOf}
use Rattle.intern_api.proofs.EntriesLaws.{get_left}

-- a handle keeps its key
pub kept : (p p' : Tables) (ks : List Key) → Extends p p' ks → (h : Handle) (k : Key) → Holds p h k → Holds p' h k
kept p p' ks ext h k held = subst (λ n. Known n p'.list.items h k) (sym ext.shards) (laws.kept head_in children_of head_of parts_of (IsHome p.shards) (entry_in p.list.items) (entry_in p'.list.items) ext.grows h k held)

get_right : {X : Type 0} (ks ls : List X) (i : ℕ) (x : X) → slice_get ls i ≡ Some x → (j : ℕ) × (slice_get (ks ++ ls) j ≡ Some x)
get_right [] ls i x at = (i, at)
get_right (k ∷ ks) ls i x at = let r = get_right ks ls i x at in (suc r.0, r.1)

in_left : (q : Key) (ks ls : List Key) → IsInOne q ks → IsInOne q (ks ++ ls)
in_left q ks ls r = record { key = r.key; at = r.at; is = get_left ks ls r.at r.key r.is; within = r.within }

in_right : (q : Key) (ks ls : List Key) → IsInOne q ls → IsInOne q (ks ++ ls)
in_right q ks ls r = let g = get_right ks ls r.at r.key r.is in record { key = r.key; at = g.0; is = g.1; within = r.within }

-- a part of a key is in it
in_key : (q k : Key) → IsInOne q (parts_of k) → IsInOne q (k ∷ [])
in_key q k r = record { key = k; at = 0; is = refl; within = part q r.key k r.at r.is r.within }

itself_in : (k : Key) → IsInOne k (k ∷ [])
itself_in k = record { key = k; at = 0; is = refl; within = itself k }

pub extends_none : (p : Tables) (ks : List Key) → Extends p p ks
extends_none p ks = record { shards = refl; cap = refl; grows = λ h e at. at; fresh = λ h e at. inl at; only = λ h q held. inl held }

pub extends_then : (p p1 p2 : Tables) (ks ls : List Key) → Extends p p1 ks → Extends p1 p2 ls → Extends p p2 (ks ++ ls)
extends_then p p1 p2 ks ls a b = record {
  shards = b.shards ∙ a.shards;
  cap = b.cap ∙ a.cap;
  grows = λ h e at. b.grows h e (a.grows h e at);
  fresh = λ h e at. elim (b.fresh h e at) as (λ _. (entry_in p.list.items h ≡ Some e) ⊎ ((q : Key) × Holds p2 h q × IsInOne q (ks ++ ls))) [
    | inl was ↦ elim (a.fresh h e was) as (λ _. (entry_in p.list.items h ≡ Some e) ⊎ ((q : Key) × Holds p2 h q × IsInOne q (ks ++ ls))) [ inl old ↦ inl old | inr new ↦ inr (new.0, kept p1 p2 ls b h new.0 new.1, in_left new.0 ks ls new.2) ]
    | inr new ↦ inr (new.0, new.1, in_right new.0 ks ls new.2)
  ];
  only = λ h q held. elim (b.only h q held) as (λ _. Holds p h q ⊎ IsInOne q (ks ++ ls)) [
    | inl was ↦ elim (a.only h q was) as (λ _. Holds p h q ⊎ IsInOne q (ks ++ ls)) [ inl old ↦ inl old | inr new ↦ inr (in_left q ks ls new) ]
    | inr new ↦ inr (in_right q ks ls new)
  ];
}

pub extends_left : (p p1 : Tables) (ks ls : List Key) → Extends p p1 ks → Extends p p1 (ks ++ ls)
extends_left p p1 ks ls a = extends_then p p1 p1 ks ls a (extends_none p1 ls)

pub extends_key : (p p1 : Tables) (k : Key) → Extends p p1 (parts_of k) → Extends p p1 (k ∷ [])
extends_key p p1 k a = record {
  shards = a.shards;
  cap = a.cap;
  grows = a.grows;
  fresh = λ h e at. elim (a.fresh h e at) as (λ _. (entry_in p.list.items h ≡ Some e) ⊎ ((q : Key) × Holds p1 h q × IsInOne q (k ∷ []))) [ inl old ↦ inl old | inr new ↦ inr (new.0, new.1, in_key new.0 k new.2) ];
  only = λ h q held. elim (a.only h q held) as (λ _. Holds p h q ⊎ IsInOne q (k ∷ [])) [ inl old ↦ inl old | inr new ↦ inr (in_key q k new) ];
}

fault_into : (p : Tables) (ks ls : List Key) → ((q : Key) → IsInOne q ks → IsInOne q ls) → (e : InternFault) → IsFaultFor p ks e → IsFaultFor p ls e
fault_into p ks ls f (Full count) cause = (cause.0, f cause.0 cause.1, cause.2)
fault_into p ks ls f NoMemory cause = cause

-- lists of keys, one after another
zip_join : {A B : Type 0} (R : A → B → Type 0) (xs zs : List A) (ys ws : List B) → AllZip R xs ys → AllZip R zs ws → AllZip R (xs ++ zs) (ys ++ ws)
zip_join R [] zs [] ws t u = u
zip_join R [] zs (y ∷ ys) ws t u = absurd t
zip_join R (x ∷ xs) zs [] ws t u = absurd t
zip_join R (x ∷ xs) zs (y ∷ ys) ws t u = (t.0, zip_join R xs zs ys ws t.1 u)

pub gathers_none : (p : Tables) (hs : List Handle) → Gathers p p hs hs []
gathers_none p hs = record { extends = extends_none p []; more = []; behind = sym (append-nil hs); held = tt }

pub gathers_then : (p p1 p2 : Tables) (hs hs1 hs2 : List Handle) (ks ls : List Key) → Gathers p p1 hs hs1 ks → Gathers p1 p2 hs1 hs2 ls → Gathers p p2 hs hs2 (ks ++ ls)
gathers_then p p1 p2 hs hs1 hs2 ks ls a b = record {
  extends = extends_then p p1 p2 ks ls a.extends b.extends;
  more = a.more ++ b.more;
  behind = b.behind ∙ ap (λ l. l ++ b.more) a.behind ∙ append_assoc hs a.more b.more;
  held = zip_join (Holds p2) a.more b.more ks ls (laws.zip_map (Holds p1) (Holds p2) (kept p1 p2 ls b.extends) a.more ks a.held) b.held;
}

pub gathers_one : (p p1 : Tables) (hs hs1 : List Handle) (k : Key) (h : Handle) → Gives p p1 k h → hs1 ≡ hs ++ h ∷ [] → Gathers p p1 hs hs1 (k ∷ [])
gathers_one p p1 hs hs1 k h g e = record { extends = g.extends; more = h ∷ []; behind = e; held = (g.held, tt) }

pub stops_gives : (p p1 : Tables) (k : Key) (h : Handle) → Gives p p1 k h → Stops p p1 (k ∷ []) NoMemory
stops_gives p p1 k h g = record { extends = g.extends; cause = tt }

pub stops_first : (p p1 : Tables) (ks ls : List Key) (e : InternFault) → Stops p p1 ks e → Stops p p1 (ks ++ ls) e
stops_first p p1 ks ls e a = record { extends = extends_left p p1 ks ls a.extends; cause = fault_into p1 ks (ks ++ ls) (λ q r. in_left q ks ls r) e a.cause }

pub stops_then : (p p1 p2 : Tables) (hs hs1 : List Handle) (ks ls : List Key) (e : InternFault) → Gathers p p1 hs hs1 ks → Stops p1 p2 ls e → Stops p p2 (ks ++ ls) e
stops_then p p1 p2 hs hs1 ks ls e a b = record { extends = extends_then p p1 p2 ks ls a.extends b.extends; cause = fault_into p2 ls (ks ++ ls) (λ q r. in_right q ks ls r) e b.cause }

pub stops_parts : (p p1 : Tables) (k : Key) (e : InternFault) → Stops p p1 (parts_of k) e → Stops p p1 (k ∷ []) e
stops_parts p p1 k e a = record { extends = extends_key p p1 k a.extends; cause = fault_into p1 (parts_of k) (k ∷ []) (λ q r. in_key q k r) e a.cause }

pub stops_memory : (p p1 : Tables) (k : Key) (hs hs1 : List Handle) → Gathers p p1 hs hs1 (parts_of k) → Stops p p1 (k ∷ []) NoMemory
stops_memory p p1 k hs hs1 a = record { extends = extends_key p p1 k a.extends; cause = tt }

-- a handle that has a key has an entry
has_entry : (p : Tables) (n : ℕ) (h : Handle) (k : Key) → IsWithinLevels head_in children_of head_of parts_of (IsHome p.shards) (entry_in p.list.items) n h k → entry_in p.list.items h ≡ None → ⊥
has_entry p zero h k w none = w
has_entry p (suc n) h k w none = none-some w.entry (sym none ∙ w.is)

has_children : (p : Tables) (hs : List Handle) (ks : List Key) → AllZip (Holds p) hs ks → (i : ℕ) (c : Handle) → slice_get hs i ≡ Some c → entry_in p.list.items c ≡ None → ⊥
has_children p [] ks t i c at none = none-some c at
has_children p (h ∷ hs) [] t i c at none = t
has_children p (h ∷ hs) (k ∷ ks) t zero c at none = has_entry p t.0.levels c k (subst (λ g. IsWithinLevels head_in children_of head_of parts_of (IsHome p.shards) (entry_in p.list.items) t.0.levels g k) (same_Some h c at) t.0.stands) none
has_children p (h ∷ hs) (k ∷ ks) t (suc i) c at none = has_children p hs ks t.1 i c at none

-- each child of an entry has an entry
child_of : (p : Tables) (n : ℕ) (h : Handle) (k : Key) (e : Entry) (i : ℕ) (c : Handle) → IsWithinLevels head_in children_of head_of parts_of (IsHome p.shards) (entry_in p.list.items) n h k → entry_in p.list.items h ≡ Some e → slice_get e.children i ≡ Some c → entry_in p.list.items c ≡ None → ⊥
child_of p zero h k e i c w at child none = w
child_of p (suc n) h k e i c w at child none =
    let same : w.entry ≡ e = same_Some w.entry e (sym w.is ∙ at) in
    has_children p w.entry.children (parts_of k) (laws.zip_map _ (Holds p) (λ g q s. record { levels = n; stands = s }) w.entry.children (parts_of k) w.rest) i c (ap (λ f. slice_get (children_of f) i) same ∙ child) none

closed_keys : (p : Tables) → AreClosed children_of (entry_in p.list.items)
closed_keys p h e i c at child none = ∥∥₁_elim (p.keys h e at) (λ a b. absurd a) (λ r. child_of p r.1.levels h r.0 e i c r.1.stands at child none)

-- an entry of a key whose parts were gathered
pub gathered_entry : (p p1 : Tables) (hash : ℕ) (k : Key) (e : Entry) → hash ≡ key_hash k → Gathers p p1 [] e.children (parts_of k) → e.head ≡ head_of k → IsEntryOf p1 e (hash % p1.shards)
gathered_entry p p1 hash k e is a heads = record { key = k; heads = heads; parts = subst (λ l. AllZip (Holds p1) l (parts_of k)) (sym a.behind) a.held; own = ap (λ n. n % p1.shards) is }

past_end : (ts : List ShardTable) (i : ℕ) → slice_get ts i ≡ None → i < length ts → ⊥
past_end [] i none within = let no : ⊥ = omega arith in no
past_end (t ∷ ts) zero none within = none-some t (sym none)
past_end (t ∷ ts) (suc i) none within = past_end ts i none (omega arith)

pub table_at : (ts : List ShardTable) (i : ℕ) → i < length ts → (t : ShardTable) × (slice_get ts i ≡ Some t)
table_at ts i within = laws.opened (slice_get ts i) (λ none. let no : ⊥ = past_end ts i none within in no)

shard_within : (p : Tables) (shards : ℕ) (k : Key) → p.shards ≡ shards → 0 < shards → shard_number shards k < length p.list.items
shard_within p shards k same some = subst (λ n. shard_number shards k < n) (sym (p.sized ∙ same)) (mod_below (key_hash k) shards some)

-- behind its parts, a key's entry is placed
module _ (p p1 p2 : Tables) (k : Key) (e : Entry) (parts : Gathers p p1 [] e.children (parts_of k)) (heads : e.head ≡ head_of k) (shards : p2.shards ≡ p1.shards) (cap : p2.cap ≡ p1.cap) where
  children_held : AllZip (Holds p1) e.children (parts_of k)
  children_held = subst (λ l. AllZip (Holds p1) l (parts_of k)) (sym parts.behind) parts.held

  grown : Grows (entry_in p1.list.items) (entry_in p2.list.items) → (h : Handle) (q : Key) → Holds p1 h q → Known p1.shards p2.list.items h q
  grown grows h q held = laws.kept head_in children_of head_of parts_of (IsHome p1.shards) (entry_in p1.list.items) (entry_in p2.list.items) grows h q held

  -- of the same number of shards
  again : {h : Handle} {q : Key} → Known p1.shards p2.list.items h q → Holds p2 h q
  again {h} {q} = subst (λ n. Known n p2.list.items h q) (sym shards)

  held_placed : (h : Handle) → IsPlaced p1.list.items p2.list.items e (shard_number p1.shards k) h → Known p1.shards p2.list.items h k
  held_placed h placed = laws.made head_in children_of head_of parts_of (IsHome p1.shards) (entry_in p2.list.items) h k e placed.of_shard placed.is heads (laws.zip_map (Holds p1) (Known p1.shards p2.list.items) (grown placed.grows) e.children (parts_of k) children_held)

  only_placed : (h : Handle) → IsPlaced p1.list.items p2.list.items e (shard_number p1.shards k) h → (n : ℕ) (g : Handle) (q : Key) → IsWithinLevels head_in children_of head_of parts_of (IsHome p1.shards) (entry_in p2.list.items) n g q → Holds p1 g q ⊎ IsInOne q (k ∷ [])
  only_placed h placed zero g q w = absurd w
  only_placed h placed (suc n) g q w = elim (placed.only g w.entry w.is) as (λ _. Holds p1 g q ⊎ IsInOne q (k ∷ [])) [
    | inl was ↦ inl (record { levels = suc n; stands = laws.stood_within head_in children_of head_of parts_of (IsHome p1.shards) (entry_in p1.list.items) (entry_in p2.list.items) placed.grows (closed_keys p1) (suc n) g q w.entry was w })
    | inr new ↦ inr (subst (λ r. IsInOne r (k ∷ [])) (one_key p1.shards p2.list.items g k q (subst (λ f. Known p1.shards p2.list.items f k) (sym new) (held_placed h placed)) (record { levels = suc n; stands = w })) (itself_in k))
  ]

  last_step : (h : Handle) → IsPlaced p1.list.items p2.list.items e (shard_number p1.shards k) h → Extends p p2 (k ∷ [])
  last_step h placed = record {
    shards = shards ∙ parts.extends.shards;
    cap = cap ∙ parts.extends.cap;
    grows = λ g f at. placed.grows g f (parts.extends.grows g f at);
    fresh = λ g f at. elim (placed.only g f at) as (λ _. (entry_in p.list.items g ≡ Some f) ⊎ ((q : Key) × Holds p2 g q × IsInOne q (k ∷ []))) [
      | inl was ↦ elim ((extends_key p p1 k parts.extends).fresh g f was) as (λ _. (entry_in p.list.items g ≡ Some f) ⊎ ((q : Key) × Holds p2 g q × IsInOne q (k ∷ []))) [ inl old ↦ inl old | inr new ↦ inr (new.0, again (grown placed.grows g new.0 new.1), new.2) ]
      | inr new ↦ inr (k, subst (λ x. Holds p2 x k) (sym new) (again (held_placed h placed)), itself_in k)
    ];
    only = λ g q held. let own : Known p1.shards p2.list.items g q = subst (λ n. Known n p2.list.items g q) shards held in
        elim (only_placed h placed own.levels g q own.stands) as (λ _. Holds p g q ⊎ IsInOne q (k ∷ [])) [
          | inl was ↦ (extends_key p p1 k parts.extends).only g q was
          | inr new ↦ inr new
        ];
  }

  pub gives_placed : (h : Handle) → IsPlaced p1.list.items p2.list.items e (shard_number p1.shards k) h → Gives p p2 k h
  gives_placed h placed = record { extends = last_step h placed; held = subst (λ n. Known n p2.list.items h k) (sym shards) (held_placed h placed) }

  back : IsUnchanged p1.list.items p2.list.items → (g : Handle) (q : Key) → Holds p2 g q → Holds p1 g q
  back same g q held = laws.kept head_in children_of head_of parts_of (IsHome p1.shards) (entry_in p2.list.items) (entry_in p1.list.items) same.shrinks g q (subst (λ n. Known n p2.list.items g q) shards held)

  -- where nothing was placed, no handle has the key
  same_extends : IsUnchanged p1.list.items p2.list.items → Extends p p2 (k ∷ [])
  same_extends same = record {
    shards = shards ∙ parts.extends.shards;
    cap = cap ∙ parts.extends.cap;
    grows = λ g f at. same.grows g f (parts.extends.grows g f at);
    fresh = λ g f at. elim ((extends_key p p1 k parts.extends).fresh g f (same.shrinks g f at)) as (λ _. (entry_in p.list.items g ≡ Some f) ⊎ ((q : Key) × Holds p2 g q × IsInOne q (k ∷ []))) [ inl old ↦ inl old | inr new ↦ inr (new.0, again (grown same.grows g new.0 new.1), new.2) ];
    only = λ g q held. (extends_key p p1 k parts.extends).only g q (back same g q held);
  }

  entry_of : (n : ℕ) (h : Handle) → IsWithinLevels head_in children_of head_of parts_of (IsHome p1.shards) (entry_in p1.list.items) n h k → (h.shard ≡ shard_number p1.shards k) × (entry_in p1.list.items h ≡ Some e)
  entry_of zero h w = absurd w
  entry_of (suc n) h w = (w.home, w.is ∙ ap Some (exact_entry w.entry e (w.same_head ∙ sym heads) (laws.zip_left _ _ (λ c d q a b. one_handle p1.shards p1.list.items c d q (record { levels = n; stands = a }) b) (children_of w.entry) e.children (parts_of k) w.rest children_held)))

  none_has : IsUnchanged p1.list.items p2.list.items → (t : ShardTable) → slice_get p2.list.items (shard_number p1.shards k) ≡ Some t → IsAbsent e t.entries.keys → (h : Handle) → Holds p2 h k → ⊥
  none_has same t at absent h held =
      let own : Holds p1 h k = laws.kept head_in children_of head_of parts_of (IsHome p1.shards) (entry_in p2.list.items) (entry_in p1.list.items) same.shrinks h k (subst (λ n. Known n p2.list.items h k) shards held) in
      let there : (h.shard ≡ shard_number p1.shards k) × (entry_in p1.list.items h ≡ Some e) = entry_of own.levels h own.stands in
      let now : placed (slice_get p2.list.items (shard_number p1.shards k)) h.place ≡ Some e = subst (λ s. placed (slice_get p2.list.items s) h.place ≡ Some e) there.0 (same.grows h e there.1) in
      absent h.place (sym (ap (λ o. placed o h.place) at) ∙ now)

  stop_cause : IsUnchanged p1.list.items p2.list.items → shard_number p1.shards k < length p2.list.items → (f : InternFault) → IsNoRoom p2.cap p2.list.items e (shard_number p1.shards k) f → IsFaultFor p2 (k ∷ []) f
  stop_cause same within NoMemory room = tt
  stop_cause same within (Full count) room =
      let t : (t : ShardTable) × (slice_get p2.list.items (shard_number p1.shards k) ≡ Some t) = table_at p2.list.items (shard_number p1.shards k) within in (
        k,
        itself_in k,
        record {
          cap = room.0;
          absent = none_has same t.0 t.1 (room.1 t.0 t.1).1;
          full = λ u at. (room.1 u (subst (λ n. slice_get p2.list.items (shard_number n k) ≡ Some u) shards at)).0;
        },
      )

  pub stops_placed : (f : InternFault) → IsUnchanged p1.list.items p2.list.items → 0 < p1.shards → IsNoRoom p2.cap p2.list.items e (shard_number p1.shards k) f → Stops p p2 (k ∷ []) f
  stops_placed f same some room = record { extends = same_extends same; cause = stop_cause same (shard_within p2 p1.shards k shards some) f room }

  pub gives_result : (r : Result Handle InternFault) → IfOk r (IsPlaced p1.list.items p2.list.items e (shard_number p1.shards k)) → IfOk r (Gives p p2 k)
  gives_result (Ok h) placed = gives_placed h placed
  gives_result (Err f) placed = tt

  pub stops_result : (r : Result Handle InternFault) → OnErr r (IsUnchanged p1.list.items p2.list.items) → 0 < p1.shards → IfErr r (IsNoRoom p2.cap p2.list.items e (shard_number p1.shards k)) → IfErr r (Stops p p2 (k ∷ []))
  stops_result (Ok h) same some room = tt
  stops_result (Err f) same some room = stops_placed f same some room

pub then_ok : {U : Type 0} (r : Result U InternFault) (p p1 p2 : Tables) (hs hs1 hs2 : List Handle) (ks ls : List Key) → Gathers p p1 hs hs1 ks → OnOk r (Gathers p1 p2 hs1 hs2 ls) → OnOk r (Gathers p p2 hs hs2 (ks ++ ls))
then_ok (Ok u) p p1 p2 hs hs1 hs2 ks ls a b = gathers_then p p1 p2 hs hs1 hs2 ks ls a b
then_ok (Err f) p p1 p2 hs hs1 hs2 ks ls a b = tt

pub then_err : {U : Type 0} (r : Result U InternFault) (p p1 p2 : Tables) (hs hs1 : List Handle) (ks ls : List Key) → Gathers p p1 hs hs1 ks → IfErr r (Stops p1 p2 ls) → IfErr r (Stops p p2 (ks ++ ls))
then_err (Ok u) p p1 p2 hs hs1 ks ls a b = tt
then_err (Err f) p p1 p2 hs hs1 ks ls a b = stops_then p p1 p2 hs hs1 ks ls f a b

-- a list of keys, item by item
map_split : {A : Type 0} (f : A → Key) (xs : List A) (i : ℕ) (x : A) → i < length xs → x ≡ get_or xs i x → (map f (take i xs) ++ f x ∷ []) ++ map f (drop (suc i) xs) ≡ map f xs
map_split f [] i x within is = let no : ⊥ = omega arith in absurd no
map_split f (y ∷ xs) zero x within is = ap (λ z. f z ∷ map f xs) is
map_split f (y ∷ xs) (suc i) x within is = ap (λ l. f y ∷ l) (map_split f xs i x (omega arith) is)

map_next : {A : Type 0} (f : A → Key) (xs : List A) (i : ℕ) (x : A) → i < length xs → x ≡ get_or xs i x → map f (take i xs) ++ f x ∷ [] ≡ map f (take (suc i) xs)
map_next f [] i x within is = let no : ⊥ = omega arith in absurd no
map_next f (y ∷ xs) zero x within is = ap (λ z. f z ∷ []) is
map_next f (y ∷ xs) (suc i) x within is = ap (λ l. f y ∷ l) (map_next f xs i x (omega arith) is)

pub gathers_next : {A : Type 0} (f : A → Key) (xs : List A) (i j : ℕ) (x : A) (p p1 p2 : Tables) (hs hs1 hs2 : List Handle) → i < length xs → x ≡ get_or xs i x → Gathers p p1 hs hs1 (map f (take i xs)) → Gathers p1 p2 hs1 hs2 (f x ∷ []) → j ≡ suc i → Gathers p p2 hs hs2 (map f (take j xs))
gathers_next f xs i j x p p1 p2 hs hs1 hs2 within is a b next = subst (λ l. Gathers p p2 hs hs2 l) (map_next f xs i x within is ∙ ap (λ n. map f (take n xs)) (sym next)) (gathers_then p p1 p2 hs hs1 hs2 (map f (take i xs)) (f x ∷ []) a b)

pub stops_at : {A : Type 0} (f : A → Key) (xs : List A) (i : ℕ) (x : A) (p p1 p2 : Tables) (hs hs1 : List Handle) (e : InternFault) → i < length xs → x ≡ get_or xs i x → Gathers p p1 hs hs1 (map f (take i xs)) → Stops p1 p2 (f x ∷ []) e → Stops p p2 (map f xs) e
stops_at f xs i x p p1 p2 hs hs1 e within is a b = subst (λ l. Stops p p2 l e) (map_split f xs i x within is) (stops_first p p2 (map f (take i xs) ++ f x ∷ []) (map f (drop (suc i) xs)) e (stops_then p p1 p2 hs hs1 (map f (take i xs)) (f x ∷ []) e a b))

pub values_map : (es : List (List ℕ × AttrTree)) → map OfAttr (values_of es) ≡ map (λ e. OfAttr e.1) es
values_map [] = refl
values_map (e ∷ es) = ap (λ l. OfAttr e.1 ∷ l) (values_map es)

pub func_keys : (t : TypeTree) (is rs : List TypeTree) → t ≡ type.Func is rs → map OfType is ++ map OfType rs ≡ map OfType (types_of (out-TypeTree t))
func_keys t is rs e = sym (map-append OfType is rs) ∙ ap (λ y. map OfType (types_of y)) (sym (type_parts.outs-Func is rs)) ∙ ap (λ u. map OfType (types_of (out-TypeTree u))) (sym e)

pub llvm_func_keys : (t : TypeTree) (o : TypeTree) (is : List TypeTree) → t ≡ type.LlvmFunc o is → (OfType o ∷ []) ++ map OfType is ≡ map OfType (types_of (out-TypeTree t))
llvm_func_keys t o is e = ap (λ y. map OfType (types_of y)) (sym (type_parts.outs-LlvmFunc o is)) ∙ ap (λ u. map OfType (types_of (out-TypeTree u))) (sym e)
