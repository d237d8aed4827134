-- How the map of recent handles changes, and what it gives.
use Rattle.std.specs.Prelude.{◌≡◌, ◌⊎◌, Bool, true, false, cond, List, [], ◌∷◌, Option, Some, None, Result, Ok, Err, IfOk, IfErr, OnOk, OnErr}
use Rattle.std.specs.HashMap.{HashMap, get, get_by, IsEmpty, IsUnchanged, Updates}
use Rattle.std.specs.Bool.{Decides}
use Rattle.std.specs.Map.{lookup}
use Rattle.std.proofs.Common.{sym, ◌∙◌, ap, subst, refl, inl, inr}
use Rattle.std.proofs.lemmas.Option.{same_Some, none-some}
use Rattle.std.proofs.Math.Logic.{∥∥₁_elim, ∥∥₁_map}
use Rattle.key_model.specs.declared.handle.Handle.{Handle}
use Rattle.key_model.specs.declared.key.Key.{Key}
use Rattle.key_model.specs.Equal.{alike_key, alike_key-Decides}
use Rattle.intern_api.specs.declared.fault.InternFault.{InternFault}
use Rattle.intern_api.specs.declared.tables.Tables.{Tables}
use Rattle.intern_api.specs.Interning.{Holds, Extends, Gives, Stops}
use Rattle.intern_api.specs.Knowing.{Knows, AreKnown, Remembers, Forgets, Interns}
use Rattle.intern_api.specs.KnowingLaws.{key_set}
use Rattle.intern_api.proofs.InterningLaws.{kept, extends_none}

-- an empty map gives nothing
pub none_given : {S : Type 0} (m : HashMap Key Handle S) → IsEmpty m → (k : Key) (h : Handle) → get alike_key m k ≡ Some h → ⊥
none_given m empty k h at = none-some h (sym (ap (lookup (alike_key k)) empty) ∙ at)

pub forgets_all : {S : Type 0} (m n : HashMap Key Handle S) → IsEmpty n → Forgets m n
forgets_all m n empty k h at = absurd (none_given n empty k h at)

by_test : (b : Bool) (key k : Key) (handle h : Handle) (was : Option Handle) → Decides b (key ≡ k) → cond b (Some handle) was ≡ Some h → (was ≡ Some h) ⊎ ((k ≡ key) × (h ≡ handle))
by_test true key k handle h was d at = inr (sym (d.0 refl), sym (same_Some handle h at))
by_test false key k handle h was d at = inl at

pub remembers : {F S : Type 0} (r : Result (Option Handle) F) (m n : HashMap Key Handle S) (key : Key) (handle : Handle) → OnOk r (Updates alike_key m n key (Some handle)) → OnErr r (IsUnchanged m n) → Remembers m n key handle
remembers (Ok o) m n key handle updates same k h at = by_test (alike_key key k) key k handle h (get alike_key m k) (alike_key-Decides key k) (sym (updates.0 k) ∙ at)
remembers (Err f) m n key handle updates same k h at = inl (sym (ap (lookup (alike_key k)) same) ∙ at)

pub forgets_then : {S : Type 0} (m n o : HashMap Key Handle S) (key : Key) (handle : Handle) → Forgets m n → Remembers n o key handle → Remembers m o key handle
forgets_then m n o key handle forgets remembers k h at = elim (remembers k h at) as (λ _. (get alike_key m k ≡ Some h) ⊎ ((k ≡ key) × (h ≡ handle))) [
  | inl was ↦ inl (forgets k h was)
  | inr new ↦ inr new
]

-- what the map gives stays known
pub kept_known : {S : Type 0} (p p' : Tables) (ks : List Key) (m : HashMap Key Handle S) → Extends p p' ks → AreKnown p m → AreKnown p' m
kept_known p p' ks m extends known k h at = ∥∥₁_map (known k h at) (λ held. kept p p' ks extends h k held)

pub kept_known_result : {S : Type 0} (r : Result Handle InternFault) (p p' : Tables) (k : Key) (m : HashMap Key Handle S) → IfOk r (Gives p p' k) → IfErr r (Stops p p' (k ∷ [])) → AreKnown p m → AreKnown p' m
kept_known_result (Ok h) p p' k m a b known = kept_known p p' (k ∷ []) m a.extends known
kept_known_result (Err f) p p' k m a b known = kept_known p p' (k ∷ []) m b.extends known

pub remembered : {S : Type 0} (p : Tables) (m n : HashMap Key Handle S) (copy key : Key) (handle : Handle) → Remembers m n copy handle → copy ≡ key → Knows p handle key → AreKnown p m → AreKnown p n
remembered p m n copy key handle remembers same own known k h at = elim (remembers k h at) as (λ _. Knows p h k) [
  | inl was ↦ known k h was
  | inr new ↦ subst (λ x. Knows p h x) (sym same ∙ sym new.0) (subst (λ x. Knows p x key) (sym new.1) own)
]

-- where the map has the handle, nothing is added
pub recalled : (p : Tables) (k : Key) (h : Handle) → Knows p h k → Interns p p k h
recalled p k h known = record { extends = extends_none p (k ∷ []); known = known }

pub interns_given : (p p' : Tables) (k : Key) (h : Handle) → Gives p p' k h → Interns p p' k h
interns_given p p' k h gives = record { extends = gives.extends; known = ∣ gives.held ∣₁ }

-- whatever comes out, a handle keeps its key
pub kept_result : (r : Result Handle InternFault) (p p' : Tables) (k : Key) → IfOk r (Interns p p' k) → IfErr r (Stops p p' (k ∷ [])) → (h : Handle) (q : Key) → Knows p h q → Knows p' h q
kept_result (Ok g) p p' k a b h q known = ∥∥₁_map known (λ held. kept p p' (k ∷ []) a.extends h q held)
kept_result (Err f) p p' k a b h q known = ∥∥₁_map known (λ held. kept p p' (k ∷ []) b.extends h q held)

pub read_known : {F : Type 0} (r : Result Key F) (p : Tables) (h : Handle) → ((k : Key) → Holds p h k → IfOk r (λ x. x ≡ k)) → (k : Key) → Knows p h k → IfOk r (λ x. x ≡ k)
read_known (Ok x) p h read k known = ∥∥₁_elim known (key_set x k) (λ held. read k held)
read_known (Err f) p h read k known = tt
