-- What operations do that are the same but for the labels of their successors.
use Rattle.std.proofs.Common.{ℕ, ◌+◌, ◌==◌, Bool, true, false, List, [], ◌∷◌, length}
use Rattle.std.specs.Prelude.{◌%◌, ◌&&◌, drop, take, if◌then◌else◌}
use Rattle.plain_tree.specs.Renamings.{RenAll, none_all, more_all}
use Rattle.number_model.specs.Answers.{Answer, Gives}
use Rattle.number_model.specs.Answers.{Answer as answer}
use Rattle.number_model.specs.Numbers.{unsigned}
use Rattle.operation_model.specs.Values.{Value, place_of, number, part_at, allocated_path}
use Rattle.operation_model.specs.Pures.{gives, truth, element_place}
use Rattle.operation_model.specs.Doings.{Doing, Ends, Asks, Calls, Jumps, Returns, Question, on}
use Rattle.operation_model.specs.Doings.{Doing as doing}
use Rattle.operation_model.specs.Calling.{spread, unpacked}
use Rattle.operation_model.specs.Forms.{Form, Computes, Branch, BranchOn, Call, Return, Load, Store, Allocate, AllocateAligned, Free, NewMemref, EndMemref, LoadElement, StoreElement}
use Rattle.operation_model.specs.Straight.{Size, allocate, allocate_aligned, allocate_at, branch_on, byte_size, does, free, is_alignment, load, memref_at, sizes_from, store}

-- the same but for labels that go together
pub data DoingRen (L : ℕ → ℕ → Type 0) : Doing → Doing → Type 0 where
  same_ends : {ys : List Value} → DoingRen L (Ends ys) (Ends ys)
  ren_asks : {q : Question} {k j : List Value → Doing} → ((ys : List Value) → DoingRen L (k ys) (j ys)) → DoingRen L (Asks q k) (Asks q j)
  ren_calls : {f : List ℕ} {xs : List Value} {k j : List Value → Doing} → ((ys : List Value) → DoingRen L (k ys) (j ys)) → DoingRen L (Calls f xs k) (Calls f xs j)
  ren_jumps : {l m : ℕ} {ys : List Value} → L l m → DoingRen L (Jumps l ys) (Jumps m ys)
  same_returns : {ys : List Value} → DoingRen L (Returns ys) (Returns ys)
  same_undefined : DoingRen L doing.Undefined doing.Undefined
  same_outside : DoingRen L doing.Outside doing.Outside

module _ (L : ℕ → ℕ → Type 0) where
  on_ren : {A : Type 0} (a : Answer A) (k j : A → Doing) → ((x : A) → DoingRen L (k x) (j x)) → DoingRen L (on a k) (on a j)
  on_ren (Gives x) k j h = h x
  on_ren answer.Undefined k j h = same_undefined
  on_ren answer.Outside k j h = same_outside

  if_ren : (b : Bool) (d e x y : Doing) → DoingRen L d e → DoingRen L x y → DoingRen L (if b then d else x) (if b then e else y)
  if_ren true d e x y h k = h
  if_ren false d e x y h k = k

  branch_ren : {l m h i : ℕ} (a b : ℕ) (xs : List Value) → L l m → L h i → (holds : Bool) → DoingRen L (branch_on l h a b xs holds) (branch_on m i a b xs holds)
  branch_ren {l = l} {m = m} a b xs first second true = if_ren (length xs == a + b) (Jumps l (take a xs)) (Jumps m (take a xs)) doing.Outside doing.Outside (ren_jumps first) same_outside
  branch_ren {h = h} {i = i} a b xs first second false = if_ren (length xs == a + b) (Jumps h (drop a xs)) (Jumps i (drop a xs)) doing.Outside doing.Outside (ren_jumps second) same_outside

  load_same : (w : ℕ) (p : Value) → DoingRen L (load w p) (load w p)
  load_same w p = on_ren (place_of p) _ _ (λ place. ren_asks (λ ys. same_ends))

  store_same : (w : ℕ) (x p : Value) → DoingRen L (store w x p) (store w x p)
  store_same w x p = on_ren (number x) _ _ (λ n. on_ren (place_of p) _ _ (λ place. ren_asks (λ ys. same_ends)))

  allocate_same : (x : Value) → DoingRen L (allocate x) (allocate x)
  allocate_same x = on_ren (number x) _ _ (λ n. ren_asks (λ ys. same_ends))

  allocate_at_same : (alignment size : ℕ) → DoingRen L (allocate_at alignment size) (allocate_at alignment size)
  allocate_at_same alignment size = if_ren (is_alignment alignment && (size % alignment == 0)) _ _ doing.Undefined doing.Undefined (ren_asks (λ ys. same_ends)) same_undefined

  aligned_same : (x y : Value) → DoingRen L (allocate_aligned x y) (allocate_aligned x y)
  aligned_same x y = on_ren (number x) _ _ (λ a. on_ren (number y) _ _ (λ n. allocate_at_same (unsigned 64 a) (unsigned 64 n)))

  free_same : (p : Value) → DoingRen L (free p) (free p)
  free_same p = on_ren (place_of p) _ _ (λ place. ren_asks (λ ys. same_ends))

  memref_same : (bits : ℕ) (sizes : List Size) (ys : List Value) → DoingRen L (memref_at bits sizes ys) (memref_at bits sizes ys)
  memref_same bits sizes [] = same_outside
  memref_same bits sizes (p ∷ []) = same_ends
  memref_same bits sizes (p ∷ q ∷ ys) = same_outside

  pub does_ren : {ls ms : List ℕ} (form : Form) → RenAll L ls ms → (xs : List Value) → DoingRen L (does form ls xs) (does form ms xs)
  does_ren (Computes p) successors xs = on_ren (gives p xs) Ends Ends (λ ys. same_ends)
  does_ren Branch (more_all l none_all) xs = ren_jumps l
  does_ren (BranchOn a b) (more_all l (more_all m none_all)) (c ∷ xs) = on_ren (truth c) _ _ (branch_ren a b xs l m)
  does_ren (Call f shapes packing) successors xs = on_ren (spread shapes xs) _ _ (λ ys. ren_calls (λ zs. on_ren (unpacked packing zs) Ends Ends (λ vs. same_ends)))
  does_ren (Return packing) successors xs = same_returns
  does_ren (Load w) successors (p ∷ []) = load_same w p
  does_ren (Store w) successors (x ∷ p ∷ []) = store_same w x p
  does_ren Allocate successors (n ∷ []) = allocate_same n
  does_ren AllocateAligned successors (a ∷ n ∷ []) = aligned_same a n
  does_ren Free successors (p ∷ []) = free_same p
  does_ren (NewMemref l) successors xs = on_ren (sizes_from l.bits l.sizes xs) _ _ (λ sizes. ren_asks (memref_same l.bits sizes))
  does_ren EndMemref successors (m ∷ []) = on_ren (part_at allocated_path m) free free free_same
  does_ren (LoadElement bits w) successors (m ∷ xs) = on_ren (element_place bits (byte_size w) m xs) (load w) (load w) (load_same w)
  does_ren (StoreElement bits w) successors (x ∷ m ∷ xs) = on_ren (element_place bits (byte_size w) m xs) (store w x) (store w x) (store_same w x)
  does_ren _ _ _ = same_outside
