-- Laws of the type table.
use Rattle.std.proofs.Common.{◌≡◌, ℕ, ◌==◌, Bool, true, false, [], ◌∷◌, Option, Some, None, refl, sym, ap, ◌∙◌, true≢false, ◌↔◌}
use Rattle.std.specs.Prelude.{length, if◌then◌else◌}
use Rattle.std.specs.Bool.{IsTrue}
use Rattle.plain_tree.specs.Types.{PlainType, Int, Index, Memref, Func, Ptr, Void, Struct, Array, LlvmFunc, types_in}
use Rattle.conversion_model.specs.Types.{all_own, is_own, new_type, number_type}
use Rattle.conversion_model.specs.Promises.{OwnTypes, ConvertedIsOwn}

abbrev is_index : Option PlainType → Bool
is_index (Some Index) = true
is_index _ = false

abbrev is_memref : Option PlainType → Bool
is_memref (Some (Memref dims element)) = true
is_memref _ = false

abbrev is_there : Option PlainType → Bool
is_there (Some t) = true
is_there None = false

-- a type that changes is another one then
is_another : (bits : ℕ) (t : PlainType) → new_type bits t ≡ Some t → ⊥
is_another bits (Int width) same = true≢false (sym (ap is_there same))
is_another bits Index same = true≢false (sym (ap is_index same))
is_another bits (Memref dims element) same = true≢false (sym (ap is_memref same))
is_another bits (Func inputs outputs) same = true≢false (sym (ap is_there same))
is_another bits Ptr same = true≢false (sym (ap is_there same))
is_another bits Void same = true≢false (sym (ap is_there same))
is_another bits (Struct fields) same = true≢false (sym (ap is_there same))
is_another bits (Array n element) same = true≢false (sym (ap is_there same))
is_another bits (LlvmFunc output inputs) same = true≢false (sym (ap is_there same))

own_at : (t : PlainType) (own : Bool) (new : Option PlainType) → (new ≡ Some t → ⊥) → IsTrue own ↔ ((if own then Some t else new) ≡ Some t)
own_at t true new other = (λ own. refl, λ same. refl)
own_at t false new other = (λ own. absurd (true≢false (sym own)), λ same. absurd (other same))

pub own_types : OwnTypes
own_types bits t = own_at t (is_own t) (new_type bits t) (is_another bits t)

-- of no type it is said that it is own
abbrev owned : Option PlainType → Bool
owned None = true
owned (Some t) = is_own t

fields_own : (bits rank : ℕ) (b : Bool) → all_own (types_in (Ptr ∷ Ptr ∷ number_type bits ∷ (if b then [] else Array rank (number_type bits) ∷ Array rank (number_type bits) ∷ []))) ≡ true
fields_own bits rank true = refl
fields_own bits rank false = refl

new_is_own : (bits : ℕ) (t : PlainType) → owned (new_type bits t) ≡ true
new_is_own bits (Int width) = refl
new_is_own bits Index = refl
new_is_own bits (Memref dims element) = fields_own bits (length dims) (length dims == 0)
new_is_own bits (Func inputs outputs) = refl
new_is_own bits Ptr = refl
new_is_own bits Void = refl
new_is_own bits (Struct fields) = refl
new_is_own bits (Array n element) = refl
new_is_own bits (LlvmFunc output inputs) = refl

owned_if : (b : Bool) (t : PlainType) (new : Option PlainType) → is_own t ≡ b → owned new ≡ true → owned (if b then Some t else new) ≡ true
owned_if true t new own other = own
owned_if false t new own other = other

pub converted_is_own : ConvertedIsOwn
converted_is_own bits t u is = sym (ap owned is) ∙ owned_if (is_own t) t (new_type bits t) refl (new_is_own bits t)
