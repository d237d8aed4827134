-- How a table of terms grows.
use Rattle.std.proofs.Common.{◌≡◌, ℕ, zero, suc, ◌+◌, ◌<◌, ◌≤◌, Bool, true, false, List, [], ◌∷◌, ◌++◌, length, Option, Some, None, refl, sym, ◌∙◌, ap, subst, inl, inr, arith}
use Rattle.std.specs.Prelude.{◌⊎◌, cond, ◌||◌, slice_get}
use Rattle.std.specs.List.{list_any}
use Rattle.std.specs.Bool.{Decides}
use Rattle.std.proofs.lemmas.List.{get_or_append_left, get_or_at, length_push}
use Rattle.std.proofs.lemmas.Option.{same_Some, none-some}
use Rattle.indexmap.specs.IndexSet.{insert_key}
use mathlib.Core.Bool.{true≢false}
use Rattle.term_table.specs.declared.node.Node.{Node}
use Rattle.term_table.specs.Terms.{Term, nothing, node, at, term_of, terms_from, term_at, made_of, PartsBefore, OneNumber, Grows}
use Rattle.std.specs.Prelude.{Result, Ok, Err, IfOk, OnErr, IfSome}
use Rattle.term_table.proofs.NodeEq.{node_equal, node_same, one_node}

-- a list without an item that is equal to this one
module _ {X : Type 0} (eq : X → X → Bool) (same : (a b : X) → Decides (eq a b) (a ≡ b)) where
  or_false : (p q : Bool) → (p || q) ≡ false → (p ≡ false) × (q ≡ false)
  or_false true q e = absurd (true≢false e)
  or_false false q e = (refl, e)

  none_any : (e : X) (ks : List X) → list_any (eq e) ks ≡ false → (i : ℕ) → slice_get ks i ≡ Some e → ⊥
  none_any e [] r i at = none-some e at
  none_any e (k ∷ ks) r zero at = true≢false (sym ((same e k).1 (sym (same_Some k e at))) ∙ (or_false _ _ r).0)
  none_any e (k ∷ ks) r (suc i) at = none_any e ks (or_false _ _ r).1 i at

-- what stands in a list that is longer by one
got_more : {X : Type 0} (ks : List X) (x : X) (i : ℕ) (y : X) → slice_get (ks ++ x ∷ []) i ≡ Some y → (slice_get ks i ≡ Some y) ⊎ ((i ≡ length ks) × (x ≡ y))
got_more [] x zero y at = inr (refl, same_Some x y at)
got_more [] x (suc i) y at = absurd (none-some y at)
got_more (k ∷ ks) x zero y at = inl at
got_more (k ∷ ks) x (suc i) y at = elim (got_more ks x i y at) as (λ _. (slice_get ks i ≡ Some y) ⊎ ((suc i ≡ length (k ∷ ks)) × (x ≡ y))) [ inl was ↦ inl was | inr new ↦ inr (omega (arith, new.0), new.1) ]

last_or : (i n : ℕ) → i ≤ n + 1 → (i ≤ n) ⊎ (i ≡ n + 1)
last_or zero n h = inl (omega arith)
last_or (suc i) zero h = inr (omega arith)
last_or (suc i) (suc n) h = elim (last_or i n (omega arith)) as (λ _. (suc i ≤ suc n) ⊎ (suc i ≡ suc n + 1)) [ inl a ↦ inl (omega arith) | inr a ↦ inr (omega arith) ]

-- what stands at a place
got : {X : Type 0} (xs : List X) (k : ℕ) → k < length xs → (x : X) × (slice_get xs k ≡ Some x)
got [] k h = absurd (omega arith)
got (x ∷ xs) zero h = (x, refl)
got (x ∷ xs) (suc k) h = got xs k (omega arith)

-- the terms before stay
pub prefix : (ns : List Node) (ts : List Term) (j : ℕ) → j < length ts → at (terms_from ts ns) j ≡ at ts j
prefix [] ts j h = refl
prefix (n ∷ ns) ts j h =
    prefix ns (ts ++ term_of ts n ∷ []) j (omega (arith, length_push ts (term_of ts n))) ∙ get_or_append_left ts (term_of ts n ∷ []) nothing j h

pub snoc : (ms : List Node) (n : Node) (ts : List Term) → terms_from ts (ms ++ n ∷ []) ≡ terms_from ts ms ++ term_of (terms_from ts ms) n ∷ []
snoc [] n ts = refl
snoc (m ∷ ms) n ts = snoc ms n (ts ++ term_of ts m ∷ [])

pub counts : (ns : List Node) (ts : List Term) → length (terms_from ts ns) ≡ length ts + length ns
counts [] ts = omega arith
counts (n ∷ ns) ts = counts ns (ts ++ term_of ts n ∷ []) ∙ omega (arith, length_push ts (term_of ts n))

-- a node's term is made of those of its parts
opened_from : (ns : List Node) (ts : List Term) (k : ℕ) (n : Node) → slice_get ns k ≡ Some n → n.left < length ts + k → n.right < length ts + k
    → at (terms_from ts ns) (length ts + k) ≡ term_of (terms_from ts ns) n
opened_from [] ts k n e l r = absurd (none-some n e)
opened_from (m ∷ ns) ts zero n e l r =
    let same : m ≡ n = same_Some m n e in
    let ts' : List Term = ts ++ term_of ts m ∷ [] in
    let long : length ts' ≡ length ts + 1 = length_push ts (term_of ts m) in
    let here : at (terms_from ts' ns) (length ts + 0) ≡ term_of ts m =
    prefix ns ts' (length ts + 0) (omega (arith, long)) ∙ get_or_at ts (term_of ts m) [] nothing (length ts + 0) (omega arith) in
    let side : (j : ℕ) → j < length ts → at (terms_from ts' ns) j ≡ at ts j = λ j h. prefix ns ts' j (omega (arith, long)) ∙ get_or_append_left ts (term_of ts m ∷ []) nothing j h in
    let a : at (terms_from ts' ns) n.left ≡ at ts n.left = side n.left (omega arith) in
    let b : at (terms_from ts' ns) n.right ≡ at ts n.right = side n.right (omega arith) in
    here ∙ ap (term_of ts) same ∙ rw (a, b) refl
opened_from (m ∷ ns) ts (suc k) n e l r =
    let ts' : List Term = ts ++ term_of ts m ∷ [] in
    let long : length ts' ≡ length ts + 1 = length_push ts (term_of ts m) in
    let place : length ts + suc k ≡ length ts' + k = omega (arith, long) in
    ap (at (terms_from ts' ns)) place ∙ opened_from ns ts' k n e (omega (arith, long)) (omega (arith, long))

pub opened : (ns : List Node) → PartsBefore ns → (k : ℕ) (n : Node) → slice_get ns k ≡ Some n
    → term_at ns (k + 1) ≡ node n.form n.value (term_at ns n.left) (term_at ns n.right)
opened ns before k n e =
    let place : k + 1 ≡ 1 + k = omega arith in
    ap (term_at ns) place ∙ opened_from ns (nothing ∷ []) k n e (omega (arith, (before k n e).0)) (omega (arith, (before k n e).1))

pub zero_is : (ns : List Node) → term_at ns 0 ≡ nothing
zero_is ns = prefix ns (nothing ∷ []) 0 (omega arith)

-- a node behind a table
module _ (old : List Node) (n : Node) where
  abbrev longer : List Node
  longer = old ++ n ∷ []

  kept_terms : (k : ℕ) → k ≤ length old → term_at longer k ≡ term_at old k
  kept_terms k h =
      ap (λ ts. at ts k) (snoc old n (nothing ∷ [])) ∙ get_or_append_left (terms_from (nothing ∷ []) old) _ nothing k (omega (arith, counts old (nothing ∷ [])))

  last_term : term_at longer (length old + 1) ≡ made_of old n
  last_term =
      ap (λ ts. at ts (length old + 1)) (snoc old n (nothing ∷ [])) ∙ get_or_at (terms_from (nothing ∷ []) old) _ [] nothing (length old + 1) (counts old (nothing ∷ []) ∙ omega arith)

  -- a term that is made of this node's parts is no other number's
  not_before : PartsBefore old → OneNumber old → n.left ≤ length old → n.right ≤ length old → ((i : ℕ) → slice_get old i ≡ Some n → ⊥)
      → (k : ℕ) → k ≤ length old → term_at old k ≡ made_of old n → ⊥
  not_before before one l r absent zero h e = let z = zero_is old in cc
  not_before before one l r absent (suc k) h e =
      let m = got old k (omega (arith, h)) in
      let step : suc k ≡ k + 1 = omega arith in
      let made : made_of old m.0 ≡ made_of old n = sym (opened old before k m.0 m.1) ∙ sym (ap (term_at old) step) ∙ e in
      let parts = before k m.0 m.1 in
      let a : m.0.form ≡ n.form = cc in
      let b : m.0.value ≡ n.value = cc in
      let c : m.0.left ≡ n.left = one m.0.left n.left (omega arith) l cc in
      let d : m.0.right ≡ n.right = one m.0.right n.right (omega arith) r cc in
      absent k (m.1 ∙ ap Some (one_node m.0 n a b c d))

  before_longer : PartsBefore old → n.left ≤ length old → n.right ≤ length old → PartsBefore longer
  before_longer before l r k m e =
      elim (got_more old n k m e) as (λ _. (m.left ≤ k) × (m.right ≤ k)) [
        | inl was ↦ before k m was
        | inr new ↦ (
          let a : m.left ≡ n.left = ap (λ (x : Node). x.left) (sym new.1) in omega (arith, new.0),
          let a : m.right ≡ n.right = ap (λ (x : Node). x.right) (sym new.1) in omega (arith, new.0),
        )
      ]

  one_longer : PartsBefore old → OneNumber old → n.left ≤ length old → n.right ≤ length old → ((i : ℕ) → slice_get old i ≡ Some n → ⊥) → OneNumber longer
  one_longer before one l r absent i j h k e =
      elim (last_or i (length old) (omega (arith, length_push old n))) as (λ _. i ≡ j) [
        | inl was ↦ elim (last_or j (length old) (omega (arith, length_push old n))) as (λ _. i ≡ j) [
          | inl wbs ↦ one i j was wbs (sym (kept_terms i was) ∙ e ∙ kept_terms j wbs)
          | inr new ↦ absurd (not_before before one l r absent i was (sym (kept_terms i was) ∙ e ∙ ap (term_at longer) new ∙ last_term))
        ]
        | inr new ↦ elim (last_or j (length old) (omega (arith, length_push old n))) as (λ _. i ≡ j) [
          | inl wbs ↦ absurd (not_before before one l r absent j wbs (sym (kept_terms j wbs) ∙ sym e ∙ ap (term_at longer) new ∙ last_term))
          | inr mew ↦ new ∙ sym mew
        ]
      ]

-- what a call of the table leaves
pub record Holds (old new : List Node) : Type 0 where
  pub before : PartsBefore new
  pub one : OneNumber new
  pub grows : Grows old new

stays : (old new : List Node) → PartsBefore old → OneNumber old → new ≡ old → Holds old new
stays old new before one e =
    subst (Holds old) (sym e) (record { before = before; one = one; grows = record { longer = omega arith; kept = λ k h. refl } })

put_cases : (b : Bool) (old new : List Node) (n : Node) → PartsBefore old → OneNumber old → n.left ≤ length old → n.right ≤ length old
    → (b ≡ false → (i : ℕ) → slice_get old i ≡ Some n → ⊥) → new ≡ cond b old (old ++ n ∷ []) → Holds old new
put_cases true old new n before one l r absent e = stays old new before one e
put_cases false old new n before one l r absent e =
    subst (Holds old) (sym e) (record {
      before = before_longer old n before l r;
      one = one_longer old n before one l r (absent refl);
      grows = record { longer = omega (arith, length_push old n); kept = kept_terms old n };
    })

pub put_holds : {A F : Type 0} (result : Result A F) (old new : List Node) (n : Node) → PartsBefore old → OneNumber old → n.left ≤ length old → n.right ≤ length old
    → IfOk result (λ _. new ≡ insert_key node_equal old n) → OnErr result (new ≡ old) → Holds old new
put_holds (Ok x) old new n before one l r more same =
    put_cases (list_any (node_equal n) old) old new n before one l r (λ none. none_any node_equal node_same n old none) more
put_holds (Err x) old new n before one l r more same = stays old new before one same

-- the number of a node that stands in the table
pub stored_is : (old new : List Node) (n m : Node) (k : ℕ) → Holds old new → n.left ≤ length old → n.right ≤ length old → slice_get new k ≡ Some m → node_equal n m ≡ true
    → term_at new (k + 1) ≡ made_of old n
stored_is old new n m k holds l r e same =
    let is : n ≡ m = (node_same n m).0 same in
    opened new holds.before k m e ∙ ap (made_of new) (sym is)
    ∙ (let a = holds.grows.kept n.left l in let b = holds.grows.kept n.right r in rw (a, b) refl)

-- what a number leads to
pub got_some : (nodes : List Node) (o : Option Node) (k number : ℕ) → PartsBefore nodes → o ≡ slice_get nodes k → k + 1 ≡ number → IfSome o (λ n. term_at nodes number ≡ made_of nodes n)
got_some nodes None k number before e is = tt
got_some nodes (Some n) k number before e is = ap (term_at nodes) (sym is) ∙ opened nodes before k n (sym e)

pub zero_at : (nodes : List Node) (number : ℕ) → number ≡ 0 → term_at nodes number ≡ nothing
zero_at nodes number e = ap (term_at nodes) e ∙ zero_is nodes
