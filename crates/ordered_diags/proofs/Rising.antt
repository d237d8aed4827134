-- The same lines in order are one list, where no two agree.
use Rattle.std.proofs.Common.{◌≡◌, ℕ, zero, suc, ◌+◌, ◌≤◌, Bool, true, false, List, [], ◌∷◌, ◌⊎◌, inl, inr, refl, sym, ap, ◌∙◌, add-one, arith}
use Rattle.std.specs.Prelude.{cond}
use Rattle.std.specs.List.{count_by, Contains}
use Rattle.std.specs.List.Sorted.{IsPermutation}
use Rattle.std.specs.Ordering.{is_eq, is_lt, ordering_reverse}
use Rattle.std.proofs.lemmas.List.Sorted.{IsPermutation-sym, IsPermutation-trans, Contains-permutation, sum_by-IsPermutation, ranks_by, sorted_far}
use Rattle.std.proofs.lemmas.List.Sums.{sum_by-cons}
use Rattle.std.proofs.lemmas.Cmp.{nat_cmp_total, on_total, then_total}
use Rattle.std.specs.Cmp.{IsTotalOrder, tied_itself}
use Rattle.std.specs.declared.cmp.Ordering.{Ordering}
use Rattle.std.specs.declared.cmp.Ordering.TheVariants.{Less, Equal, Greater}
use Rattle.ordered_diags.specs.declared.diag.Diag.{Diag}
use Rattle.ordered_diags.specs.Order.{diag_cmp, IsInOrder, agrees, NoTwoAgree, OneOrder}

-- The order

diag_total : IsTotalOrder diag_cmp
diag_total = then_total (then_total (on_total (λ (d : Diag). d.function) nat_cmp_total) (on_total (λ (d : Diag). d.pass) nat_cmp_total)) (on_total (λ (d : Diag). d.sequence) nat_cmp_total)

abbrev before : Diag → Diag → Bool
before d e = is_lt (diag_cmp d e)

level : (r s : Ordering) → s ≡ ordering_reverse r → is_lt r ≡ false → is_lt s ≡ false → is_eq r ≡ true
level Less s e h k = absurd cc
level Equal s e h k = refl
level Greater s e h k = let turned : is_lt s ≡ true = ap is_lt e in absurd cc

tied : (d e : Diag) → before d e ≡ false → before e d ≡ false → agrees d e ≡ true
tied d e h k = level (diag_cmp d e) (diag_cmp e d) (diag_total.antisymm e d) h k

agrees_self : (d : Diag) → agrees d d ≡ true
agrees_self d = ap is_eq (tied_itself diag_total d)

-- Members

abbrev In : Diag → List Diag → Type 0
In x [] = ⊥
In x (d ∷ ds) = (d ≡ x) ⊎ In x ds

in_from : (ds : List Diag) (x : Diag) → Contains ds x → In x ds
in_from [] x (k, h, e) = absurd (omega arith)
in_from (d ∷ ds) x (zero, h, e) = inl e
in_from (d ∷ ds) x (suc k, h, e) = inr (in_from ds x (k, omega arith, e))

contains_from : (ds : List Diag) (x : Diag) → In x ds → Contains ds x
contains_from [] x h = absurd h
contains_from (d ∷ ds) x (inl e) = (zero, omega arith, e)
contains_from (d ∷ ds) x (inr h) = let (k, l, e) = contains_from ds x h in (suc k, omega arith, e)

-- Lists in order

sorted_tail : (x : Diag) (ds : List Diag) → IsInOrder (x ∷ ds) → IsInOrder ds
sorted_tail x ds up = λ k d low h. rw add-one (rw (add-one (suc k)) at (up (suc k) d (omega arith) (omega arith)))

sorted_in : (x y : Diag) (ds : List Diag) → IsInOrder (x ∷ ds) → In y ds → before y x ≡ false
sorted_in x y ds up h = let (k, l, e) = contains_from ds y h in rw e at (sorted_far before (ranks_by diag_total (λ (d : Diag). d)) (x ∷ ds) up 0 (suc k) y (omega arith) (omega arith))

-- Counts

count_cons : (p : Diag → Bool) (d : Diag) (ds : List Diag) → count_by p (d ∷ ds) ≡ cond (p d) 1 0 + count_by p ds
count_cons p d ds = sum_by-cons (λ (e : Diag). cond (p e) 1 0) d ds

count_in : (p : Diag → Bool) (ds : List Diag) (y : Diag) → In y ds → p y ≡ true → 1 ≤ count_by p ds
count_in p [] y h is = absurd h
count_in p (d ∷ ds) y (inl e) is =
    let here : cond {A = ℕ} (p d) 1 0 ≡ 1 = rw (e, is) refl in
    let all = count_cons p d ds in omega arith
count_in p (d ∷ ds) y (inr h) is = let more : 1 ≤ count_by p ds = count_in p ds y h is in let all = count_cons p d ds in omega arith

no_twin : (x y : Diag) (ds : List Diag) → count_by (agrees x) (x ∷ ds) ≤ 1 → In y ds → agrees x y ≡ true → ⊥
no_twin x y ds once h is =
    let more : 1 ≤ count_by (agrees x) ds = count_in (agrees x) ds y h is in
    let here : cond {A = ℕ} (agrees x x) 1 0 ≡ 1 = rw (agrees_self x) refl in
    let all = count_cons (agrees x) x ds in omega arith

once_tail : (x : Diag) (ds : List Diag) → NoTwoAgree (x ∷ ds) → NoTwoAgree ds
once_tail x ds once = λ d. let most = once d in let all = count_cons (agrees d) x ds in omega arith

-- One list

same_head : (x y : Diag) (r s : List Diag) → IsInOrder (x ∷ r) → IsInOrder (y ∷ s) → NoTwoAgree (x ∷ r) → In x (y ∷ s) → In y (x ∷ r) → x ≡ y
same_head x y r s up_r up_s once (inl e) h = sym e
same_head x y r s up_r up_s once (inr k) (inl e) = e
same_head x y r s up_r up_s once (inr k) (inr h) =
    absurd (no_twin x y r (once x) h (tied x y (sorted_in y x s up_s k) (sorted_in x y r up_r h)))

later : (x y z : Diag) (r s : List Diag) → NoTwoAgree (x ∷ r) → x ≡ y → In z r → In z (y ∷ s) → In z s
later x y z r s once same h (inr k) = k
later x y z r s once same h (inl e) = absurd (no_twin x x r (once x) (rw (same ∙ e) h) (agrees_self x))

same_list : (r s : List Diag) → IsInOrder r → IsInOrder s → NoTwoAgree r → NoTwoAgree s → ((z : Diag) → In z r → In z s) → ((z : Diag) → In z s → In z r) → r ≡ s
same_list [] [] up_r up_s once_r once_s to back = refl
same_list [] (y ∷ s) up_r up_s once_r once_s to back = absurd (back y (inl refl))
same_list (x ∷ r) [] up_r up_s once_r once_s to back = absurd (to x (inl refl))
same_list (x ∷ r) (y ∷ s) up_r up_s once_r once_s to back =
    let head : x ≡ y = same_head x y r s up_r up_s once_r (to x (inl refl)) (back y (inl refl)) in
    let tail : r ≡ s = same_list r s (sorted_tail x r up_r) (sorted_tail y s up_s) (once_tail x r once_r) (once_tail y s once_s)
    (λ z h. later x y z r s once_r head h (to z (inr h))) (λ z h. later y x z s r once_s (sym head) h (back z (inr h))) in
    cc

moved_once : (a r : List Diag) → IsPermutation a r → NoTwoAgree a → NoTwoAgree r
moved_once a r moved once = λ d. let all = once d in let same = sum_by-IsPermutation (λ (e : Diag). cond (agrees d e) 1 0) a r moved in omega arith

moved_in : (a r : List Diag) → IsPermutation a r → (z : Diag) → In z a → In z r
moved_in a r moved z h = in_from r z (Contains-permutation a r z moved (contains_from a z h))

pub one_order : OneOrder
one_order = λ a b r s ab once ma mb.
    let once_r : NoTwoAgree r = moved_once a r ma.all once in
    let rs : IsPermutation r s = IsPermutation-trans r a s (IsPermutation-sym a r ma.all) (IsPermutation-trans a b s ab mb.all) in
    same_list r s ma.in_order mb.in_order once_r (moved_once r s rs once_r) (moved_in r s rs) (moved_in s r (IsPermutation-sym r s rs))
