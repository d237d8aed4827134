-- What a template may replace: an operation that jumps has no results.
use Rattle.std.proofs.Common.{◌≡◌, ◌⊎◌, inl, inr, ℕ, Bool, true, false, List, [], ◌∷◌, Some, refl, sym, ap, ◌∙◌, true≢false}
use Rattle.std.specs.Prelude.{◌==◌, ◌||◌, if◌then◌else◌, ◌&&◌, ◌%◌}
use Rattle.std.proofs.lemmas.Bool.{eqb-true}
use Rattle.number_model.specs.Numbers.{unsigned}
use Rattle.number_model.specs.Answers.{Answer, Gives}
use Rattle.number_model.specs.Answers.{Answer as answer}
use Rattle.operation_model.specs.Values.{Value, allocated_path, number, part_at, place_of}
use Rattle.operation_model.specs.Pures.{element_place, gives}
use Rattle.operation_model.specs.Doings.{Doing, Ends, Asks, Calls, Jumps, Returns, Undefined, Outside, on}
use Rattle.operation_model.specs.Calling.{spread, unpacked}
use Rattle.operation_model.specs.Forms.{Form, Computes, Branch, BranchOn, Call, Return, Load, Store, Allocate, AllocateAligned, Free, NewMemref, EndMemref, LoadElement, StoreElement, If, For, While, Switch, Execute, Yield, Condition, Unknown}
use Rattle.operation_model.specs.Straight.{Size, allocate_at, byte_size, does, is_alignment, load, memref_at, sizes_from, store}
use Rattle.form_model.specs.Codes.{Env, lookup, lookups, bind}
use Rattle.plain_tree.specs.Types.{PlainType}
use Rattle.rule_model.specs.Words.{has}
use Rattle.sound_model.specs.Soundness.{IsReplaceable}
use Rattle.chosen_laws.proofs.Lists.{none_some, some_same}
use Rattle.sim_laws.proofs.Lines.{IsStructured}
use Rattle.conversion_laws.proofs.Names.{both_values}

-- no jump
abbrev pub NoJumps : Doing → Type 0
NoJumps (Ends ys) = Unit {0}
NoJumps (Asks q k) = (ys : List Value) → NoJumps (k ys)
NoJumps (Calls f xs k) = (ys : List Value) → NoJumps (k ys)
NoJumps (Jumps l ys) = ⊥
NoJumps (Returns ys) = Unit {0}
NoJumps Undefined = Unit {0}
NoJumps Outside = Unit {0}

on_quiet : {A : Type 0} (a : Answer A) (next : A → Doing) → ((x : A) → NoJumps (next x)) → NoJumps (on a next)
on_quiet (Gives x) next h = h x
on_quiet answer.Undefined next h = tt
on_quiet answer.Outside next h = tt

load_quiet : (w : ℕ) (p : Value) → NoJumps (load w p)
load_quiet w p = on_quiet (place_of p) _ (λ place ys. tt)

store_quiet : (w : ℕ) (x p : Value) → NoJumps (store w x p)
store_quiet w x p = on_quiet (number x) _ (λ n. on_quiet (place_of p) _ (λ place ys. tt))

either_quiet : (b : Bool) (d e : Doing) → NoJumps d → NoJumps e → NoJumps (if b then d else e)
either_quiet true d e h k = h
either_quiet false d e h k = k

memref_quiet : (bits : ℕ) (sizes : List Size) (ys : List Value) → NoJumps (memref_at bits sizes ys)
memref_quiet bits sizes (p ∷ []) = tt
memref_quiet bits sizes [] = tt
memref_quiet bits sizes (p ∷ q ∷ ys) = tt

pub quiet : (form : Form) (results : List PlainType) → IsReplaceable form results → (results ≡ []) ⊎ ((ls : List ℕ) (xs : List Value) → NoJumps (does form ls xs))
quiet (Computes p) results h = inr (λ ls xs. on_quiet (gives p xs) Ends (λ ys. tt))
quiet Branch results h = inl h
quiet (BranchOn a b) results h = inl h
quiet (Call f shapes packing) results h = inr (λ ls xs. on_quiet (spread shapes xs) _ (λ ys zs. on_quiet (unpacked packing zs) Ends (λ us. tt)))
quiet (Return packing) results h = inr (λ ls xs. tt)
quiet (Load w) results h = inr go
  where
    go : (ls : List ℕ) (xs : List Value) → NoJumps (does (Load w) ls xs)
    go ls (p ∷ []) = load_quiet w p
    go ls [] = tt
    go ls (p ∷ q ∷ xs) = tt
quiet (Store w) results h = inr go
  where
    go : (ls : List ℕ) (xs : List Value) → NoJumps (does (Store w) ls xs)
    go ls (x ∷ p ∷ []) = store_quiet w x p
    go ls [] = tt
    go ls (x ∷ []) = tt
    go ls (x ∷ p ∷ q ∷ xs) = tt
quiet Allocate results h = inr go
  where
    go : (ls : List ℕ) (xs : List Value) → NoJumps (does Allocate ls xs)
    go ls (n ∷ []) = on_quiet (number n) _ (λ k ys. tt)
    go ls [] = tt
    go ls (p ∷ q ∷ xs) = tt
quiet AllocateAligned results h = inr go
  where
    aligned : (alignment size : ℕ) → NoJumps (allocate_at alignment size)
    aligned alignment size = either_quiet (is_alignment alignment && (size % alignment == 0)) _ _ (λ ys. tt) tt

    go : (ls : List ℕ) (xs : List Value) → NoJumps (does AllocateAligned ls xs)
    go ls (x ∷ y ∷ []) = on_quiet (number x) _ (λ alignment. on_quiet (number y) _ (λ size. aligned (unsigned 64 alignment) (unsigned 64 size)))
    go ls [] = tt
    go ls (x ∷ []) = tt
    go ls (x ∷ p ∷ q ∷ xs) = tt
quiet Free results h = inr go
  where
    go : (ls : List ℕ) (xs : List Value) → NoJumps (does Free ls xs)
    go ls (p ∷ []) = on_quiet (place_of p) _ (λ place ys. tt)
    go ls [] = tt
    go ls (p ∷ q ∷ xs) = tt
quiet (NewMemref l) results h = inr (λ ls xs. on_quiet (sizes_from l.bits l.sizes xs) _ (λ sizes ys. memref_quiet l.bits sizes ys))
quiet EndMemref results h = inr go
  where
    go : (ls : List ℕ) (xs : List Value) → NoJumps (does EndMemref ls xs)
    go ls (m ∷ []) = on_quiet (part_at allocated_path m) _ (λ p. on_quiet (place_of p) _ (λ place ys. tt))
    go ls [] = tt
    go ls (p ∷ q ∷ xs) = tt
quiet (LoadElement bits w) results h = inr go
  where
    go : (ls : List ℕ) (xs : List Value) → NoJumps (does (LoadElement bits w) ls xs)
    go ls (m ∷ xs) = on_quiet (element_place bits (byte_size w) m xs) _ (load_quiet w)
    go ls [] = tt
quiet (StoreElement bits w) results h = inr go
  where
    go : (ls : List ℕ) (xs : List Value) → NoJumps (does (StoreElement bits w) ls xs)
    go ls (x ∷ m ∷ xs) = on_quiet (element_place bits (byte_size w) m xs) _ (store_quiet w x)
    go ls [] = tt
    go ls (x ∷ []) = tt
quiet If results h = absurd h
quiet (For w) results h = absurd h
quiet While results h = absurd h
quiet (Switch w cases) results h = absurd h
quiet Execute results h = absurd h
quiet Yield results h = absurd h
quiet Condition results h = absurd h
quiet Unknown results h = inr (λ ls xs. tt)

pub unstructured : (form : Form) (results : List PlainType) → IsReplaceable form results → IsStructured form → ⊥
unstructured If results h s = h
unstructured (For w) results h s = h
unstructured While results h s = h
unstructured (Switch w cases) results h s = h
unstructured Execute results h s = h
unstructured Yield results h s = h
unstructured Condition results h s = h
unstructured form results h s = s

-- Results that are bound

pub bound_at : (rs : List ℕ) (ys : List Value) (env e e' : Env) (j : ℕ) → bind rs ys env ≡ Some e → lookups rs e' ≡ Some ys → (lookup j env ≡ lookup j e') ⊎ (has j rs ≡ true) → lookup j e ≡ lookup j e'
bound_at [] [] env e e' j is found (inl same) = ap (lookup j) (sym (some_same is)) ∙ same
bound_at [] [] env e e' j is found (inr h) = absurd (true≢false (sym h))
bound_at [] (y ∷ ys) env e e' j is found h = absurd (none_some is)
bound_at (r ∷ rs) [] env e e' j is found h = absurd (none_some is)
bound_at (r ∷ rs) (y ∷ ys) env e e' j is found h =
    let b = both_values (lookup r e') (lookups rs e') (y ∷ ys) found in
    bound_at rs ys ((r, y) ∷ env) e e' j is (b.rest_is ∙ ap Some (sym (tail_is b.is))) (go (r == j) refl (b.first_is ∙ ap Some (sym (head_is b.is))) h)
  where
    head_or : Value → List Value → Value
    head_or d [] = d
    head_or d (x ∷ xs) = x

    tail_of : List Value → List Value
    tail_of [] = []
    tail_of (x ∷ xs) = xs

    head_is : {a b : Value} {us vs : List Value} → a ∷ us ≡ b ∷ vs → a ≡ b
    head_is {a} is = ap (head_or a) is

    tail_is : {a b : Value} {us vs : List Value} → a ∷ us ≡ b ∷ vs → us ≡ vs
    tail_is is = ap tail_of is

    go : (b : Bool) → (r == j) ≡ b → lookup r e' ≡ Some y → (lookup j env ≡ lookup j e') ⊎ (has j (r ∷ rs) ≡ true) → ((if b then Some y else lookup j env) ≡ lookup j e') ⊎ (has j rs ≡ true)
    go true same here before = inl (sym here ∙ ap (λ k. lookup k e') (eqb-true r j same))
    go false same here (inl before) = inl before
    go false same here (inr among) = inr (sym (ap (λ c. c || has j rs) same) ∙ among)
