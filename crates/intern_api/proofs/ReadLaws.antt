-- How keys are read back.
use Rattle.std.specs.Prelude.{◌≡◌, ◌<◌, ◌≤◌, ℕ, zero, suc, List, [], ◌∷◌, ◌++◌, Some, Result, Ok, Err, IfOk, length}
use Rattle.std.specs.List.{AllZip}
use Rattle.std.proofs.Common.{sym, ◌∙◌, ap, subst, refl, arith, get_or, take}
use Rattle.std.proofs.lemmas.Option.{same_Some}
use Rattle.key_model.specs.declared.entry.Entry.{Entry}
use Rattle.key_model.specs.declared.handle.Handle.{Handle}
use Rattle.key_model.specs.declared.key.Key.{Key}
use Rattle.key_model.specs.Parts.{head_of, parts_of}
use Rattle.key_model.specs.Build.{build}
use Rattle.key_model.specs.BuildLaws.{built}
use Rattle.key_model.specs.Stands.{IsWithinLevels}
use Rattle.key_model.specs.StandsLaws as laws
use Rattle.intern_api.specs.declared.tables.Tables.{Tables}
use Rattle.intern_api.specs.Held.{entry_in, IsHome, head_in, children_of}
use Rattle.intern_api.specs.Interning.{Holds}

parts_within : (p : Tables) (n : ℕ) (h : Handle) (k : Key) (e : Entry) → IsWithinLevels head_in children_of head_of parts_of (IsHome p.shards) (entry_in p.list.items) n h k → entry_in p.list.items h ≡ Some e → (e.head ≡ head_of k) × AllZip (Holds p) e.children (parts_of k)
parts_within p zero h k e w at = absurd w
parts_within p (suc n) h k e w at =
    let same : w.entry ≡ e = same_Some w.entry e (sym w.is ∙ at) in
    (sym (ap head_in same) ∙ w.same_head, subst (λ f. AllZip (Holds p) (children_of f) (parts_of k)) same (laws.zip_map _ (Holds p) (λ c q s. record { levels = n; stands = s }) (children_of w.entry) (parts_of k) w.rest))

pub read_built : {F : Type 0} (r : Result Key F) (p : Tables) (h : Handle) (e : Entry) (items : List Key) → entry_in p.list.items h ≡ Some e → ((ks : List Key) → AllZip (Holds p) e.children ks → items ≡ ks) → IfOk r (λ x. x ≡ build e.head items) → (k : Key) → Holds p h k → IfOk r (λ x. x ≡ k)
read_built (Ok x) p h e items at parts made k held =
    let level : (e.head ≡ head_of k) × AllZip (Holds p) e.children (parts_of k) = parts_within p held.levels h k e held.stands at in
    made ∙ (λ i. build (level.0 i) (parts (parts_of k) level.1 i)) ∙ built k
read_built (Err f) p h e items at parts made k held = tt

abbrev no_keys : List Key
no_keys = []

-- the key of one more handle
pub read_next : (p : Tables) (hs : List Handle) (ks : List Key) (i : ℕ) (h : Handle) (key : Key) (items : List Key) → ((k : Key) → Holds p h k → key ≡ k) → AllZip (Holds p) hs ks → items ≡ take i ks → i < length hs → h ≡ get_or hs i h → items ++ key ∷ [] ≡ take (suc i) ks
read_next p [] ks i h key items read held was within is = let no : ⊥ = omega arith in absurd no
read_next p (g ∷ hs) [] i h key items read held was within is = absurd held
read_next p (g ∷ hs) (k ∷ ks) zero h key items read held was within is = ap (λ l. l ++ key ∷ []) was ∙ ap (λ x. x ∷ []) (read k (subst (λ x. Holds p x k) (sym is) held.0))
read_next p (g ∷ hs) (k ∷ ks) (suc i) h key items read held was within is = ap (λ l. l ++ key ∷ []) was ∙ ap (λ l. k ∷ l) (read_next p hs ks i h key (take i ks) read held.1 refl (omega arith) is)

none_taken : (i : ℕ) → take i no_keys ≡ no_keys
none_taken zero = refl
none_taken (suc i) = refl

pub read_whole : (p : Tables) (hs : List Handle) (ks : List Key) (i : ℕ) (items : List Key) → length hs ≤ i → AllZip (Holds p) hs ks → items ≡ take i ks → items ≡ ks
read_whole p [] [] i items past held was = was ∙ none_taken i
read_whole p [] (k ∷ ks) i items past held was = absurd held
read_whole p (h ∷ hs) [] i items past held was = absurd held
read_whole p (h ∷ hs) (k ∷ ks) zero items past held was = let no : ⊥ = omega arith in absurd no
read_whole p (h ∷ hs) (k ∷ ks) (suc i) items past held was = was ∙ ap (λ l. k ∷ l) (read_whole p hs ks i (take i ks) (omega arith) held.1 refl)
