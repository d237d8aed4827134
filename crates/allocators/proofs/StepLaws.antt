-- The declarations that are missing go behind the functions.
use Rattle.std.proofs.Common.{◌≡◌, ℕ, Bool, true, false, List, [], ◌∷◌, ◌++◌, append_assoc, map, Some, refl, sym, ap, ◌∙◌}
use Rattle.std.specs.Prelude.{not, ◌&&◌, ◌||◌, codes, if◌then◌else◌, slice_get, remove}
use Rattle.std.specs.List.{list_any}
use Rattle.std.proofs.lemmas.List.{append-nil}
use Rattle.std.proofs.lemmas.Option.{none-some}
use Rattle.tree_model.specs.declared.op_tree.FuncTree.{FuncTree}
use Rattle.plain_tree.specs.Types.{PlainType}
use Rattle.plain_tree.specs.Ops.{Op, plain_func}
use Rattle.pattern_model.specs.ModuleStep.{allocators_declared, declaration, declared, is_called, is_there}
use Rattle.allocators.specs.Missing.{aligned_type, free_type, is_wanted, malloc_type, missing_all, missing_one}

quiet : {A : Type 0} (p : A → Bool) (xs ys : List A) → list_any p ys ≡ false → list_any p (xs ++ ys) ≡ list_any p xs
quiet p [] ys e = e
quiet p (x ∷ xs) ys e = ap (λ b. p x || b) (quiet p xs ys e)

-- a declaration calls nothing, and has its own name
record Silent (name : List ℕ) (xs : List Op) : Type 0 where
  calls_none : is_called name xs ≡ false
  has_none : is_there name xs ≡ false

same_wanted : (name : List ℕ) (funcs xs : List Op) → Silent name xs → is_wanted name (funcs ++ xs) ≡ is_wanted name funcs
same_wanted name funcs xs s =
    ap (λ b. b && not (is_there name (funcs ++ xs))) (quiet _ funcs xs s.calls_none) ∙ ap (λ b. is_called name funcs && not b) (quiet _ funcs xs s.has_none)

put_behind : (b : Bool) (d : Op) (funcs xs : List Op) → (if b then (funcs ++ xs) ++ d ∷ [] else (funcs ++ xs)) ≡ funcs ++ (xs ++ (if b then d ∷ [] else []))
put_behind true d funcs xs = append_assoc funcs xs (d ∷ [])
put_behind false d funcs xs = ap (λ (ys : List Op). funcs ++ ys) (sym (append-nil xs))

declared_is : (name : List ℕ) (t : PlainType) (funcs xs : List Op) → Silent name xs → declared name t (funcs ++ xs) ≡ funcs ++ (xs ++ missing_one name t funcs)
declared_is name t funcs xs s =
    put_behind (is_wanted name (funcs ++ xs)) (declaration name t) funcs xs
    ∙ ap (λ b. funcs ++ (xs ++ (if b then declaration name t ∷ [] else []))) (same_wanted name funcs xs s)

nothing_silent : (name : List ℕ) → Silent name []
nothing_silent name = record { calls_none = refl; has_none = refl }

malloc_silent : (b : Bool) → Silent (codes "free") (if b then declaration (codes "malloc") malloc_type ∷ [] else [])
malloc_silent true = record { calls_none = refl; has_none = refl }
malloc_silent false = record { calls_none = refl; has_none = refl }

both_silent : (b c : Bool) → Silent (codes "aligned_alloc") ((if b then declaration (codes "malloc") malloc_type ∷ [] else []) ++ (if c then declaration (codes "free") free_type ∷ [] else []))
both_silent true true = record { calls_none = refl; has_none = refl }
both_silent true false = record { calls_none = refl; has_none = refl }
both_silent false true = record { calls_none = refl; has_none = refl }
both_silent false false = record { calls_none = refl; has_none = refl }

pub all_declared : (funcs : List Op) → allocators_declared funcs ≡ funcs ++ missing_all funcs
all_declared funcs =
    let m : List Op = missing_one (codes "malloc") malloc_type funcs in
    let f : List Op = missing_one (codes "free") free_type funcs in
    let first : declared (codes "malloc") malloc_type funcs ≡ funcs ++ m =
    ap (declared (codes "malloc") malloc_type) (sym (append-nil funcs)) ∙ declared_is (codes "malloc") malloc_type funcs [] (nothing_silent (codes "malloc")) in
    let second : declared (codes "free") free_type (declared (codes "malloc") malloc_type funcs) ≡ funcs ++ (m ++ f) =
    ap (declared (codes "free") free_type) first ∙ declared_is (codes "free") free_type funcs m (malloc_silent (is_wanted (codes "malloc") funcs)) in
    ap (declared (codes "aligned_alloc") aligned_type) second
    ∙ declared_is (codes "aligned_alloc") aligned_type funcs (m ++ f) (both_silent (is_wanted (codes "malloc") funcs) (is_wanted (codes "free") funcs))

-- Functions of code

plain_more : (xs ys : List FuncTree) → map plain_func (xs ++ ys) ≡ map plain_func xs ++ map plain_func ys
plain_more [] ys = refl
plain_more (x ∷ xs) ys = ap (λ (os : List Op). plain_func x ∷ os) (plain_more xs ys)

pub step_is : (old new more : List FuncTree) → new ≡ old ++ more → map plain_func more ≡ missing_all (map plain_func old) → map plain_func new ≡ allocators_declared (map plain_func old)
step_is old new more e h =
    ap (map plain_func) e ∙ plain_more old more ∙ ap (λ (os : List Op). map plain_func old ++ os) h ∙ sym (all_declared (map plain_func old))

pub first_taken : {A : Type 0} (xs : List A) (f : A) → slice_get xs 0 ≡ Some f → f ∷ remove xs 0 ≡ xs
first_taken [] f e = absurd (none-some f e)
first_taken (x ∷ xs) f e = let same : f ≡ x = cc in ap (λ y. y ∷ xs) same
