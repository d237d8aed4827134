-- What an operation does next, by its form: to go on, to jump to a successor, or neither.
use Rattle.std.proofs.Common.{◌≡◌, inl, inr, ℕ, ◌+◌, ◌==◌, Bool, true, false, List, [], ◌∷◌, Option, Some, None, refl, sym, ap, ◌∙◌, subst, true≢false}
use Rattle.std.specs.Prelude.{length, codes, ◌%◌, ◌&&◌, ◌||◌, if◌then◌else◌}
use Rattle.std.specs.Option.{option_map, unwrap_or}
use Rattle.std.specs.Str.{bytes_eq}
use Rattle.std.proofs.lemmas.Slice.Eq.{bytes_eq-Decides}
use Rattle.number_model.specs.Numbers.{unsigned}
use Rattle.number_model.specs.Answers.{Answer, Gives}
use Rattle.number_model.specs.Answers.{Answer as answer}
use Rattle.operation_model.specs.Values.{Value, number, part_at, place_of, allocated_path}
use Rattle.operation_model.specs.Pures.{Pure, Moves, element_place, gives, truth}
use Rattle.operation_model.specs.Doings.{Doing, Ends, Asks, Jumps, on}
use Rattle.operation_model.specs.Doings.{Doing as doing}
use Rattle.operation_model.specs.Doings.{Question as question}
use Rattle.operation_model.specs.Calling.{spread, unpacked}
use Rattle.operation_model.specs.Forms.{Form, Computes, Branch, BranchOn, Call, Return, Load, Store, Allocate, AllocateAligned, Free, NewMemref, EndMemref, LoadElement, StoreElement, If, For, While, Switch, Execute, Yield, Condition, Unknown}
use Rattle.operation_model.specs.Straight.{Size, allocate_at, byte_size, is_alignment, branch_on, does, free, load, memref_at, sizes_from, store}
use Rattle.form_model.specs.Classes.{form_of}
use Rattle.form_model.specs.Properties.{counts_of}
use Rattle.plain_tree.specs.Types.{PlainType}
use Rattle.plain_tree.specs.Attrs.{Entries, entries_tree}
use Rattle.rule_model.specs.Words.{AllOf, AnyOf, has}
use Rattle.rule_model.specs.Rows.{Row, ends_block, ends_block_as, is_terminator, rows, shape_in}
use Rattle.rule_model.proofs.Numbers.{itself, only_one, or_right}
use Rattle.sound_model.specs.Runs.{form_at}

-- forms of operations behind which a path doesn't go on in its block
abbrev pub IsEnd : Form → Type 0
IsEnd Branch = Unit {0}
IsEnd (BranchOn a b) = Unit {0}
IsEnd (Return packing) = Unit {0}
IsEnd Yield = Unit {0}
IsEnd Condition = Unit {0}
IsEnd Unknown = Unit {0}
IsEnd _ = ⊥

-- the form of casts
abbrev pub IsMove : Form → Type 0
IsMove (Computes Moves) = Unit {0}
IsMove _ = ⊥

-- the forms of operations with regions
abbrev pub Holds : Form → Type 0
Holds If = Unit {0}
Holds (For w) = Unit {0}
Holds While = Unit {0}
Holds (Switch w cases) = Unit {0}
Holds Execute = Unit {0}
Holds _ = ⊥

pub holds_on : (form : Form) → Holds form → IsEnd form → ⊥
holds_on If h e = e
holds_on (For w) h e = e
holds_on While h e = e
holds_on (Switch w cases) h e = e
holds_on Execute h e = e
holds_on form h e = h

pub holds_more : (form : Form) → Holds form → IsMove form → ⊥
holds_more If h e = e
holds_more (For w) h e = e
holds_more While h e = e
holds_more (Switch w cases) h e = e
holds_more Execute h e = e
holds_more form h e = h

-- where it ends with values E holds of them, and each jump is to one of these labels
abbrev pub DoingIs : (List Value → Type 0) → List ℕ → Doing → Type 0
DoingIs E ls (Ends ys) = E ys
DoingIs E ls (Asks q k) = (ys : List Value) → DoingIs E ls (k ys)
DoingIs E ls (doing.Calls f xs k) = (ys : List Value) → DoingIs E ls (k ys)
DoingIs E ls (Jumps l ys) = has l ls ≡ true
DoingIs E ls (doing.Returns ys) = Unit {0}
DoingIs E ls doing.Undefined = Unit {0}
DoingIs E ls doing.Outside = Unit {0}

-- an operation that goes on with these values: it has no form that ends, and a cast gives its operand
abbrev pub Follows : Form → List Value → List Value → Type 0
Follows form xs ys = (IsEnd form → ⊥) × (IsMove form → xs ≡ ys)

module _ (E : List Value → Type 0) (ls : List ℕ) where
  on_is : {A : Type 0} (a : Answer A) (next : A → Doing) → ((x : A) → DoingIs E ls (next x)) → DoingIs E ls (on a next)
  on_is (Gives x) next h = h x
  on_is answer.Undefined next h = tt
  on_is answer.Outside next h = tt

  either_is : (b : Bool) (d e : Doing) → DoingIs E ls d → DoingIs E ls e → DoingIs E ls (if b then d else e)
  either_is true d e x y = x
  either_is false d e x y = y

  branches_is : (first second a b : ℕ) (xs : List Value) (c : Bool) → has first ls ≡ true → has second ls ≡ true → DoingIs E ls (branch_on first second a b xs c)
  branches_is first second a b xs true x y = either_is (length xs == a + b) _ doing.Outside x tt
  branches_is first second a b xs false x y = either_is (length xs == a + b) _ doing.Outside y tt

  module _ (all : (ys : List Value) → E ys) where
    load_is : (w : ℕ) (p : Value) → DoingIs E ls (load w p)
    load_is w p = on_is (place_of p) _ (λ place. all)

    store_is : (w : ℕ) (x p : Value) → DoingIs E ls (store w x p)
    store_is w x p = on_is (number x) _ (λ n. on_is (place_of p) _ (λ place. all))

    free_is : (p : Value) → DoingIs E ls (free p)
    free_is p = on_is (place_of p) _ (λ place. all)

    memref_is : (bits : ℕ) (sizes : List Size) (ps : List Value) → DoingIs E ls (memref_at bits sizes ps)
    memref_is bits sizes [] = tt
    memref_is bits sizes (p ∷ []) = all _
    memref_is bits sizes (p ∷ q ∷ ps) = tt

    allocate_is : (alignment size : ℕ) → DoingIs E ls (allocate_at alignment size)
    allocate_is alignment size = either_is (is_alignment alignment && (size % alignment == 0)) (Asks (question.Allocate alignment size) Ends) doing.Undefined all tt

  computes_is : (p : Pure) (xs : List Value) → ((ys : List Value) → Follows (Computes p) xs ys → E ys) → DoingIs E ls (on (gives p xs) Ends)
  computes_is Moves [] h = tt
  computes_is Moves (x ∷ []) h = h (x ∷ []) (λ n. n, λ m. refl)
  computes_is Moves (x ∷ y ∷ xs) h = tt
  computes_is p xs h = on_is (gives p xs) Ends (λ ys. h ys (λ n. n, λ n. absurd n))

  form_is : (form : Form) (ms : List ℕ) → ms ≡ ls → (xs : List Value) → ((ys : List Value) → Follows form xs ys → E ys) → DoingIs E ls (does form ms xs)
  form_is (Computes p) ms same xs h = computes_is p xs h
  form_is Branch [] same xs h = tt
  form_is Branch (l ∷ []) same xs h = subst (λ ns. has l ns ≡ true) same (only_one l)
  form_is Branch (l ∷ k ∷ ms) same xs h = tt
  form_is (BranchOn a b) [] same xs h = tt
  form_is (BranchOn a b) (l ∷ []) same xs h = tt
  form_is (BranchOn a b) (l ∷ k ∷ []) same [] h = tt
  form_is (BranchOn a b) (l ∷ k ∷ []) same (c ∷ xs) h =
      on_is (truth c) _ (λ holds. branches_is l k a b xs holds (subst (λ ns. has l ns ≡ true) same (ap (λ x. x || has l (k ∷ [])) (itself l))) (subst (λ ns. has k ns ≡ true) same (or_right (l == k) _ (only_one k))))
  form_is (BranchOn a b) (l ∷ k ∷ j ∷ ms) same xs h = tt
  form_is (Call f shapes packing) ms same xs h = on_is (spread shapes xs) _ (λ vs reply. on_is (unpacked packing reply) Ends (λ ys. h ys (λ n. n, λ n. absurd n)))
  form_is (Return packing) ms same xs h = tt
  form_is (Load w) ms same [] h = tt
  form_is (Load w) ms same (p ∷ []) h = load_is (λ ys. h ys (λ n. n, λ n. absurd n)) w p
  form_is (Load w) ms same (p ∷ q ∷ xs) h = tt
  form_is (Store w) ms same [] h = tt
  form_is (Store w) ms same (x ∷ []) h = tt
  form_is (Store w) ms same (x ∷ p ∷ []) h = store_is (λ ys. h ys (λ n. n, λ n. absurd n)) w x p
  form_is (Store w) ms same (x ∷ p ∷ q ∷ xs) h = tt
  form_is Allocate ms same [] h = tt
  form_is Allocate ms same (n ∷ []) h = on_is (number n) _ (λ k ys. h ys (λ n. n, λ n. absurd n))
  form_is Allocate ms same (n ∷ m ∷ xs) h = tt
  form_is AllocateAligned ms same [] h = tt
  form_is AllocateAligned ms same (x ∷ []) h = tt
  form_is AllocateAligned ms same (x ∷ y ∷ []) h = on_is (number x) _ (λ alignment. on_is (number y) _ (λ size. allocate_is (λ ys. h ys (λ n. n, λ n. absurd n)) (unsigned 64 alignment) (unsigned 64 size)))
  form_is AllocateAligned ms same (x ∷ y ∷ z ∷ xs) h = tt
  form_is Free ms same [] h = tt
  form_is Free ms same (p ∷ []) h = free_is (λ ys. h ys (λ n. n, λ n. absurd n)) p
  form_is Free ms same (p ∷ q ∷ xs) h = tt
  form_is (NewMemref l) ms same xs h = on_is (sizes_from l.bits l.sizes xs) _ (λ sizes ps. memref_is (λ ys. h ys (λ n. n, λ n. absurd n)) l.bits sizes ps)
  form_is EndMemref ms same [] h = tt
  form_is EndMemref ms same (m ∷ []) h = on_is (part_at allocated_path m) free (λ p. free_is (λ ys. h ys (λ n. n, λ n. absurd n)) p)
  form_is EndMemref ms same (m ∷ n ∷ xs) h = tt
  form_is (LoadElement bits w) ms same [] h = tt
  form_is (LoadElement bits w) ms same (m ∷ xs) h = on_is (element_place bits (byte_size w) m xs) (load w) (λ p. load_is (λ ys. h ys (λ n. n, λ n. absurd n)) w p)
  form_is (StoreElement bits w) ms same [] h = tt
  form_is (StoreElement bits w) ms same (x ∷ []) h = tt
  form_is (StoreElement bits w) ms same (x ∷ m ∷ xs) h = on_is (element_place bits (byte_size w) m xs) (store w x) (λ p. store_is (λ ys. h ys (λ n. n, λ n. absurd n)) w x p)
  form_is If ms same xs h = tt
  form_is (For w) ms same xs h = tt
  form_is While ms same xs h = tt
  form_is (Switch w cases) ms same xs h = tt
  form_is Execute ms same xs h = tt
  form_is Yield ms same xs h = tt
  form_is Condition ms same xs h = tt
  form_is Unknown ms same xs h = tt

  -- what an operation does without regions
  pub does_is : (form : Form) (xs : List Value) → ((ys : List Value) → Follows form xs ys → E ys) → DoingIs E ls (does form ls xs)
  does_is form xs h = form_is form ls refl xs h

-- A terminator has such a form

-- the names in rows whose shape ends a block
abbrev ending : List Row → List (List ℕ)
ending [] = []
ending (r ∷ rs) = if ends_block r.1 then r.0 ∷ ending rs else ending rs

among_ending : (name : List ℕ) (rs : List Row) → ends_block_as (shape_in name rs) ≡ true → AnyOf (λ n. n ≡ name) (ending rs)
among_ending name [] e = absurd (true≢false (sym e))
among_ending name (r ∷ rs) e = go (bytes_eq r.0 name) refl (ends_block r.1) refl e (among_ending name rs)
  where
    go : (b : Bool) → bytes_eq r.0 name ≡ b → (c : Bool) → ends_block r.1 ≡ c → ends_block_as (if b then Some r.1 else shape_in name rs) ≡ true → (ends_block_as (shape_in name rs) ≡ true → AnyOf (λ n. n ≡ name) (ending rs))
        → AnyOf (λ n. n ≡ name) (if c then r.0 ∷ ending rs else ending rs)
    go true same true own e later = inl ((bytes_eq-Decides r.0 name).0 same)
    go true same false own e later = absurd (true≢false (sym e ∙ own))
    go false other true own e later = inr (later e)
    go false other false own e later = later e

counted_end : (o : Option (ℕ × ℕ)) → IsEnd (unwrap_or (option_map (λ (counts : ℕ × ℕ). BranchOn counts.0 counts.1) o) Unknown)
counted_end None = tt
counted_end (Some counts) = tt

-- these names
abbrev enders : List (List ℕ)
enders =
    codes "func.return"
    ∷ codes "cf.br"
    ∷ codes "cf.cond_br"
    ∷ codes "scf.yield"
    ∷ codes "scf.condition"
    ∷ codes "llvm.return"
    ∷ codes "llvm.br"
    ∷ codes "llvm.cond_br"
    ∷ []

same_enders : ending rows ≡ enders
same_enders = refl

one_of : (P : List ℕ → Type 0) (name : List ℕ) (ns : List (List ℕ)) → AllOf P ns → AnyOf (λ n. n ≡ name) ns → P name
one_of P name [] all any = absurd any
one_of P name (n ∷ ns) all (inl is) = subst P is all.0
one_of P name (n ∷ ns) all (inr later) = one_of P name ns all.1 later

module _ (bits : ℕ) (props : Entries) (ts us : List PlainType) where
  abbrev EndsAs : List ℕ → Type 0
  EndsAs name = IsEnd (form_at bits name props ts us)

  enders_end : AllOf EndsAs enders
  unfolding form_of
  enders_end = (tt, (tt, (counted_end (counts_of (entries_tree props)), (tt, (tt, (tt, (tt, (counted_end (counts_of (entries_tree props)), tt))))))))

  pub ends_form : (name : List ℕ) → is_terminator name ≡ true → EndsAs name
  ends_form name e = one_of EndsAs name enders enders_end (subst (AnyOf (λ n. n ≡ name)) same_enders (among_ending name rows e))
