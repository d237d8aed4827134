-- The lines on failures in order are in order, and no two agree.
use Rattle.std.proofs.Common.{◌≡◌, ℕ, zero, suc, ◌+◌, ◌≤◌, ◌<◌, Bool, true, false, List, [], ◌∷◌, ◌++◌, length, get_or, inl, inr, refl, sym, ap, subst, ◌∙◌, add-one, arith}
use Rattle.std.specs.Prelude.{cond, flat_map, ⊤}
use Rattle.std.specs.List.{count_by}
use Rattle.std.specs.Ordering.{is_eq, is_lt, nat_cmp, ordering_then}
use Rattle.std.specs.Cmp.{nat_cmp_is}
use Rattle.std.specs.declared.cmp.Ordering.{Ordering}
use Rattle.std.specs.declared.cmp.Ordering.TheVariants.{Less, Equal, Greater}
use Rattle.std.proofs.lemmas.Bool.{cases_lt}
use Rattle.std.proofs.lemmas.List.Concat.{flat_map-cons}
use Rattle.std.proofs.lemmas.List.Sums.{sum_by-cons}
use Rattle.std.proofs.lemmas.List.Sorted.{IsPermutation-refl}
use Rattle.plain_tree.specs.Ops.{Op}
use Rattle.pattern_model.specs.Fold.{Failure}
use Rattle.ordered_diags.specs.declared.diag.Diag.{Diag}
use Rattle.ordered_diags.specs.Failures.{error_text, lines_of, note_text}
use Rattle.ordered_diags.specs.Order.{IsInOrder, IsMerged, NoTwoAgree, agrees, diag_cmp}
use Rattle.ordered_diags.proofs.Rising.{one_order}
use Rattle.lowered_module.specs.Lines.{all_lines, said}
use Rattle.lowered_module.specs.Rising.{AreRising}

-- The lines one by one

abbrev error_on : List Op → Failure → Diag
error_on funcs e = record { function = e.function; pass = e.position; sequence = 0; place = e.number; text = error_text (said funcs e) }

abbrev note_on : List Op → Failure → Diag
note_on funcs e = record { function = e.function; pass = e.position; sequence = 1; place = e.number; text = note_text (said funcs e) }

abbrev listed : List Op → List Failure → List Diag
listed funcs [] = []
listed funcs (e ∷ es) = error_on funcs e ∷ note_on funcs e ∷ listed funcs es

two_lines : (funcs : List Op) (e : Failure) → lines_of (said funcs e) ≡ error_on funcs e ∷ note_on funcs e ∷ []
unfolding lines_of
two_lines funcs e = refl

are_listed : (funcs : List Op) (es : List Failure) → all_lines funcs es ≡ listed funcs es
are_listed funcs [] = refl
are_listed funcs (e ∷ es) =
    flat_map-cons (λ x. lines_of (said funcs x)) e es
    ∙ ap (λ ds. ds ++ all_lines funcs es) (two_lines funcs e)
    ∙ ap (λ ds. error_on funcs e ∷ note_on funcs e ∷ ds) (are_listed funcs es)

-- The order of two lines

abbrev before : Diag → Diag → Bool
before d e = is_lt (diag_cmp d e)

-- a line on a later function isn't before one on an earlier one
later_function : (d e : Diag) → d.function < e.function → before e d ≡ false
later_function d e lt =
    let r : Greater ≡ nat_cmp e.function d.function = nat_cmp_is e.function d.function Greater lt in
    sym (ap (λ o. is_lt (ordering_then (ordering_then o (nat_cmp e.pass d.pass)) (nat_cmp e.sequence d.sequence))) r)

-- the note isn't before its error
behind_error : (funcs : List Op) (e : Failure) → before (note_on funcs e) (error_on funcs e) ≡ false
behind_error funcs e =
    let f : Equal ≡ nat_cmp e.function e.function = nat_cmp_is e.function e.function Equal refl in
    let p : Equal ≡ nat_cmp e.position e.position = nat_cmp_is e.position e.position Equal refl in
    sym (ap (λ o. is_lt (ordering_then o Greater)) p ∙ ap (λ o. is_lt (ordering_then (ordering_then o (nat_cmp e.position e.position)) Greater)) f)

-- Lists in order

abbrev HeadAfter : Diag → List Diag → Type 0
HeadAfter d [] = ⊤
HeadAfter d (e ∷ es) = before e d ≡ false

order_at : (x y : Diag) (ys : List Diag) → before y x ≡ false → IsInOrder (y ∷ ys) → (k : ℕ) (d : Diag) → k + 1 < length (x ∷ y ∷ ys) → before (get_or (x ∷ y ∷ ys) (k + 1) d) (get_or (x ∷ y ∷ ys) k d) ≡ false
order_at x y ys h up zero d lt = h
order_at x y ys h up (suc k) d lt =
    let e : suc (k + 1) ≡ suc k + 1 = omega arith in
    subst (λ n. before (get_or (x ∷ y ∷ ys) n d) (get_or (y ∷ ys) k d) ≡ false) e (up k d (omega arith) (omega arith))

in_order_cons : (x : Diag) (ds : List Diag) → HeadAfter x ds → IsInOrder ds → IsInOrder (x ∷ ds)
in_order_cons x [] h up = λ k d low lt. absurd (omega arith)
in_order_cons x (y ∷ ys) h up = λ k d low lt. order_at x y ys h up k d lt

head_after : (d : Diag) (funcs : List Op) (k : ℕ) (es : List Failure) → d.function < k → AreRising k es → HeadAfter d (listed funcs es)
head_after d funcs k [] lt up = tt
head_after d funcs k (e ∷ es) lt up = later_function d (error_on funcs e) (omega (arith, up.0))

in_order : (funcs : List Op) (k : ℕ) (es : List Failure) → AreRising k es → IsInOrder (listed funcs es)
in_order funcs k [] up = λ j d low lt. absurd (omega arith)
in_order funcs k (e ∷ es) up =
    in_order_cons (error_on funcs e) (note_on funcs e ∷ listed funcs es) (behind_error funcs e)
    (in_order_cons (note_on funcs e) (listed funcs es) (head_after (note_on funcs e) funcs (e.function + 1) es (omega arith) up.1) (in_order funcs (e.function + 1) es up.1))

-- Lines that agree

abbrev one : Bool → ℕ
one b = cond b 1 0

count_cons : (p : Diag → Bool) (d : Diag) (ds : List Diag) → count_by p (d ∷ ds) ≡ one (p d) + count_by p ds
count_cons p d ds = sum_by-cons (λ (e : Diag). cond (p e) 1 0) d ds

-- lines on two functions don't agree
above_differs : (d e : Diag) → d.function < e.function → agrees d e ≡ false
above_differs d e lt =
    let r : Less ≡ nat_cmp d.function e.function = nat_cmp_is d.function e.function Less lt in
    sym (ap (λ o. is_eq (ordering_then (ordering_then o (nat_cmp d.pass e.pass)) (nat_cmp d.sequence e.sequence))) r)

below_differs : (d e : Diag) → e.function < d.function → agrees d e ≡ false
below_differs d e lt =
    let r : Greater ≡ nat_cmp d.function e.function = nat_cmp_is d.function e.function Greater lt in
    sym (ap (λ o. is_eq (ordering_then (ordering_then o (nat_cmp d.pass e.pass)) (nat_cmp d.sequence e.sequence))) r)

-- no number is both 0 and 1
not_both : (n : ℕ) → one (is_eq (nat_cmp n 0)) + one (is_eq (nat_cmp n 1)) ≤ 1
not_both zero = omega arith
not_both (suc n) =
    let r : is_eq (nat_cmp (suc n) 0) ≡ false = sym (ap is_eq (nat_cmp_is (suc n) 0 Greater (omega arith))) in
    let z : one (is_eq (nat_cmp (suc n) 0)) ≡ 0 = ap one r in
    at_most z (is_eq (nat_cmp (suc n) 1))
  where
    at_most : {a : ℕ} → a ≡ 0 → (b : Bool) → a + one b ≤ 1
    at_most z true = omega arith
    at_most z false = omega arith

one_of_two : (o : Ordering) (n : ℕ) → one (is_eq (ordering_then o (nat_cmp n 0))) + one (is_eq (ordering_then o (nat_cmp n 1))) ≤ 1
one_of_two Less n = omega arith
one_of_two Equal n = not_both n
one_of_two Greater n = omega arith

-- none agrees with a line on a function before them
none_agrees : (d : Diag) (funcs : List Op) (k : ℕ) (es : List Failure) → d.function < k → AreRising k es → count_by (agrees d) (listed funcs es) ≡ 0
none_agrees d funcs k [] lt up = refl
none_agrees d funcs k (e ∷ es) lt up =
    let a : one (agrees d (error_on funcs e)) ≡ 0 = ap one (above_differs d (error_on funcs e) (omega (arith, up.0))) in
    let b : one (agrees d (note_on funcs e)) ≡ 0 = ap one (above_differs d (note_on funcs e) (omega (arith, up.0))) in
    let first = count_cons (agrees d) (error_on funcs e) (note_on funcs e ∷ listed funcs es) in
    let second = count_cons (agrees d) (note_on funcs e) (listed funcs es) in
    let rest = none_agrees d funcs (e.function + 1) es (omega (arith, up.0)) up.1 in
    omega arith

near : (d : Diag) (funcs : List Op) (e : Failure) (es : List Failure) → d.function < e.function + 1 → AreRising (e.function + 1) es → count_by (agrees d) (listed funcs (e ∷ es)) ≤ 1
near d funcs e es lt up =
    let first = count_cons (agrees d) (error_on funcs e) (note_on funcs e ∷ listed funcs es) in
    let second = count_cons (agrees d) (note_on funcs e) (listed funcs es) in
    let rest = none_agrees d funcs (e.function + 1) es lt up in
    let two : one (agrees d (error_on funcs e)) + one (agrees d (note_on funcs e)) ≤ 1 = one_of_two (ordering_then (nat_cmp d.function e.function) (nat_cmp d.pass e.position)) d.sequence in
    omega arith

far : (d : Diag) (funcs : List Op) (e : Failure) (es : List Failure) → e.function + 1 ≤ d.function → count_by (agrees d) (listed funcs es) ≤ 1 → count_by (agrees d) (listed funcs (e ∷ es)) ≤ 1
far d funcs e es ge rest =
    let first = count_cons (agrees d) (error_on funcs e) (note_on funcs e ∷ listed funcs es) in
    let second = count_cons (agrees d) (note_on funcs e) (listed funcs es) in
    let a : one (agrees d (error_on funcs e)) ≡ 0 = ap one (below_differs d (error_on funcs e) (omega arith)) in
    let b : one (agrees d (note_on funcs e)) ≡ 0 = ap one (below_differs d (note_on funcs e) (omega arith)) in
    omega arith

-- at most one agrees with any line
one_agrees : (d : Diag) (funcs : List Op) (k : ℕ) (es : List Failure) → AreRising k es → count_by (agrees d) (listed funcs es) ≤ 1
one_agrees d funcs k [] up = omega arith
one_agrees d funcs k (e ∷ es) up =
    let rest : count_by (agrees d) (listed funcs es) ≤ 1 = one_agrees d funcs (e.function + 1) es up.1 in
    elim (cases_lt d.function (e.function + 1)) [ inl lt ↦ near d funcs e es lt up.1 | inr ge ↦ far d funcs e es ge rest ]

no_two_agree : (funcs : List Op) (es : List Failure) → AreRising 0 es → NoTwoAgree (listed funcs es)
no_two_agree funcs es up = λ d. one_agrees d funcs 0 es up

-- the merged lines are the lines in order
pub merged_is : (funcs : List Op) (es : List Failure) (merged : List Diag) → AreRising 0 es → IsMerged (all_lines funcs es) merged → merged ≡ all_lines funcs es
merged_is funcs es merged up is =
    let own : IsMerged (listed funcs es) (listed funcs es) = record { all = IsPermutation-refl (listed funcs es); in_order = in_order funcs 0 es up } in
    let given : IsMerged (listed funcs es) merged = subst (λ ds. IsMerged ds merged) (are_listed funcs es) is in
    one_order (listed funcs es) (listed funcs es) merged (listed funcs es) (IsPermutation-refl (listed funcs es)) (no_two_agree funcs es up) given own ∙ sym (are_listed funcs es)
