-- What a table gives is fresh.
use Rattle.std.proofs.Common.{◌≡◌, ◌≢◌, ℕ, zero, suc, ◌+◌, ◌<◌, ◌==◌, Bool, true, false, List, [], ◌∷◌, refl, sym, ap, subst, ◌∙◌, arith, true≢false}
use Rattle.std.specs.Prelude.{◌&&◌, if◌then◌else◌}
use Rattle.std.proofs.lemmas.Bool.Decides.{Decides-eqb}
use Rattle.plain_tree.specs.Ops.{Op, op, Ops, end_of_ops, more_ops, Regions, end_of_regions, region, Blocks, end_of_blocks, block, Values}
use Rattle.conversion_model.specs.Fresh.{Place, of_row, of_line, of_function, of_block, same_place, new_value, EachOf, EachValue, EachOp, EachOps, EachRegion, EachBlock, IsOld, IsOldLabel, Fresh}
use Rattle.new_numbers.specs.declared.tops.Tops.{Tops}
use Rattle.new_numbers.specs.Tops.{over_op}
use Rattle.new_numbers.specs.Tables.{among, coded, paired, Extends, Numbering, supply_of, value_in}
use Rattle.new_numbers.proofs.TopLaws.{each_below}

-- Pairs as one number

record Both (a b c d : ℕ) : Type 0 where
  first : a ≡ c
  second : b ≡ d

pair_one : (a b c d : ℕ) → paired a b ≡ paired c d → Both a b c d
pair_one zero b zero d e = record { first = refl; second = omega (arith, e) }
pair_one zero b (suc c) d e = absurd (omega (arith, e))
pair_one (suc a) b zero d e = absurd (omega (arith, e))
pair_one (suc a) b (suc c) d e =
    let half : paired a b ≡ paired c d = omega (arith, e) in
    let it = pair_one a b c d half in
    record { first = ap suc it.first; second = it.second }

sort_differs : (a b c d : ℕ) → a ≢ c → paired a b ≡ paired c d → ⊥
sort_differs a b c d h e = h (pair_one a b c d e).first

-- places with one code are one place
code_one : (p q : Place) → coded p ≡ coded q → p ≡ q
code_one (of_row m j) (of_row n k) e =
    let a = pair_one m j n k (pair_one 0 (paired m j) 0 (paired n k) e).second in
    ap (λ x. of_row x j) a.first ∙ ap (of_row n) a.second
code_one (of_line m p j) (of_line n q k) e =
    let a = pair_one m (paired p j) n (paired q k) (pair_one 1 (paired m (paired p j)) 1 (paired n (paired q k)) e).second in
    let b = pair_one p j q k a.second in
    ap (λ x. of_line x p j) a.first ∙ ap (λ x. of_line n x j) b.first ∙ ap (of_line n q) b.second
code_one (of_function j) (of_function k) e = ap of_function (pair_one 2 j 2 k e).second
code_one (of_block l j) (of_block m k) e =
    let a = pair_one l j m k (pair_one 3 (paired l j) 3 (paired m k) e).second in
    ap (λ x. of_block x j) a.first ∙ ap (of_block m) a.second
code_one (of_row m j) (of_line n q k) e = absurd (sort_differs 0 _ 1 _ (λ h. omega (arith, h)) e)
code_one (of_row m j) (of_function k) e = absurd (sort_differs 0 _ 2 _ (λ h. omega (arith, h)) e)
code_one (of_row m j) (of_block n k) e = absurd (sort_differs 0 _ 3 _ (λ h. omega (arith, h)) e)
code_one (of_line m p j) (of_row n k) e = absurd (sort_differs 1 _ 0 _ (λ h. omega (arith, h)) e)
code_one (of_line m p j) (of_function k) e = absurd (sort_differs 1 _ 2 _ (λ h. omega (arith, h)) e)
code_one (of_line m p j) (of_block n k) e = absurd (sort_differs 1 _ 3 _ (λ h. omega (arith, h)) e)
code_one (of_function j) (of_row n k) e = absurd (sort_differs 2 _ 0 _ (λ h. omega (arith, h)) e)
code_one (of_function j) (of_line n q k) e = absurd (sort_differs 2 _ 1 _ (λ h. omega (arith, h)) e)
code_one (of_function j) (of_block n k) e = absurd (sort_differs 2 _ 3 _ (λ h. omega (arith, h)) e)
code_one (of_block l j) (of_row n k) e = absurd (sort_differs 3 _ 0 _ (λ h. omega (arith, h)) e)
code_one (of_block l j) (of_line n q k) e = absurd (sort_differs 3 _ 1 _ (λ h. omega (arith, h)) e)
code_one (of_block l j) (of_function k) e = absurd (sort_differs 3 _ 2 _ (λ h. omega (arith, h)) e)

-- Places and their equality

both : (a b : Bool) → (a && b) ≡ true → (a ≡ true) × (b ≡ true)
both true true e = (refl, refl)
both true false e = absurd (true≢false (sym e))
both false b e = absurd (true≢false (sym e))

number_is : (m n : ℕ) → (m == n) ≡ true → m ≡ n
number_is m n e = (Decides-eqb m n).0 e

number_same : (n : ℕ) → (n == n) ≡ true
number_same n = (Decides-eqb n n).1 refl

pub place_is : (p q : Place) → same_place p q ≡ true → p ≡ q
place_is (of_row m j) (of_row n k) e = let h = both (m == n) (j == k) e in ap (λ x. of_row x j) (number_is m n h.0) ∙ ap (of_row n) (number_is j k h.1)
place_is (of_line m p j) (of_line n q k) e =
    let h = both (m == n) ((p == q) && (j == k)) e in
    let g = both (p == q) (j == k) h.1 in
    ap (λ x. of_line x p j) (number_is m n h.0) ∙ ap (λ x. of_line n x j) (number_is p q g.0) ∙ ap (of_line n q) (number_is j k g.1)
place_is (of_function j) (of_function k) e = ap of_function (number_is j k e)
place_is (of_block l j) (of_block m k) e = let h = both (l == m) (j == k) e in ap (λ x. of_block x j) (number_is l m h.0) ∙ ap (of_block m) (number_is j k h.1)
place_is _ _ e = absurd (true≢false (sym e))

pub place_same : (p : Place) → same_place p p ≡ true
place_same (of_row n k) = ap (λ b. b && (k == k)) (number_same n) ∙ number_same k
place_same (of_line n q k) = ap (λ b. b && ((q == q) && (k == k))) (number_same n) ∙ ap (λ b. b && (k == k)) (number_same q) ∙ number_same k
place_same (of_function k) = number_same k
place_same (of_block l k) = ap (λ b. b && (k == k)) (number_same l) ∙ number_same k

-- places among others are one-to-one
among_by : (ps : List Place) (p q r : Place) (a b : Bool) → same_place p r ≡ a → same_place q r ≡ b → (among ps p ≡ among ps q → p ≡ q)
    → (if a then 0 else among ps p + 1) ≡ (if b then 0 else among ps q + 1) → p ≡ q
among_by ps p q r true true a b next e = place_is p r a ∙ sym (place_is q r b)
among_by ps p q r true false a b next e = absurd (omega (arith, e))
among_by ps p q r false true a b next e = absurd (omega (arith, e))
among_by ps p q r false false a b next e = next (omega (arith, e))

among_one : (ps : List Place) (p q : Place) → among ps p ≡ among ps q → p ≡ q
among_one [] p q e = code_one p q e
among_one (r ∷ ps) p q e = among_by ps p q r (same_place p r) (same_place q r) refl refl (among_one ps p q) e

test_is : (m n : ℕ) (b : Bool) → (b ≡ true → m ≡ n) → (m ≡ n → b ≡ true) → (m == n) ≡ b
test_is m n true onward back = (Decides-eqb m n).1 (onward refl)
test_is m n false onward back = other (m == n) refl
  where
    other : (c : Bool) → (m == n) ≡ c → c ≡ false
    other true e = absurd (true≢false (sym (back ((Decides-eqb m n).0 e))))
    other false e = refl

-- numbers from one base on
based : (base : ℕ) (ps : List Place) (p q : Place) → (base + among ps p == base + among ps q) ≡ same_place p q
based base ps p q =
    test_is (base + among ps p) (base + among ps q) (same_place p q)
    (λ e. ap (λ r. base + among ps r) (place_is p q e))
    (λ e. let same : among ps p ≡ among ps q = omega (arith, e) in ap (λ r. same_place p r) (sym (among_one ps p q same)) ∙ place_same p)

pub value_at : (t : Numbering) (p : Place) → new_value (supply_of t) p ≡ value_in t p
value_at t (of_row n k) = refl
value_at t (of_line n piece k) = refl
value_at t (of_function k) = refl
value_at t (of_block label k) = refl

values_fresh : (t : Numbering) (p q : Place) → (new_value (supply_of t) p == new_value (supply_of t) q) ≡ same_place p q
values_fresh t p q = ap (λ n. n == new_value (supply_of t) q) (value_at t p) ∙ ap (λ n. value_in t p == n) (value_at t q) ∙ based t.base t.values p q

-- Numbers below the base are old

apart : (m base n : ℕ) → m < base → (m == base + n) ≡ false
apart m base n h = test_is m (base + n) false (λ e. absurd (true≢false (sym e))) (λ e. absurd (omega (arith, h, e)))

old_value : (t : Numbering) (n : ℕ) → n < t.base → IsOld (supply_of t) n
old_value t n h p = ap (λ m. n == m) (value_at t p) ∙ apart n t.base (among t.values p) h

old_label : (t : Numbering) (l : ℕ) → l < t.label_base → IsOldLabel (supply_of t) l
old_label t l h n k = apart l t.label_base (among t.labels (of_row n k)) h

-- P where Q, for each number of a tree
module _ (P Q U V : ℕ → Type 0) (value : (n : ℕ) → P n → Q n) (label : (l : ℕ) → U l → V l) where
  of_all : (ns : List ℕ) → EachOf P ns → EachOf Q ns
  of_all [] h = tt
  of_all (n ∷ ns) h = (value n h.0, of_all ns h.1)

  of_labels : (ns : List ℕ) → EachOf U ns → EachOf V ns
  of_labels [] h = tt
  of_labels (n ∷ ns) h = (label n h.0, of_labels ns h.1)

  of_values : (vs : Values) → EachValue P vs → EachValue Q vs
  of_values [] h = tt
  of_values (v ∷ vs) h = (value v.0 h.0, of_values vs h.1)

  mutual
    of_op : (o : Op) → EachOp P U o → EachOp Q V o
    of_op (op k results operands regions successors) h = (of_values results h.0, of_all operands h.1, of_regions regions h.2, of_labels successors h.3)

    of_ops : (os : Ops) → EachOps P U os → EachOps Q V os
    of_ops end_of_ops h = tt
    of_ops (more_ops o os) h = (of_op o h.0, of_ops os h.1)

    of_regions : (rs : Regions) → EachRegion P U rs → EachRegion Q V rs
    of_regions end_of_regions h = tt
    of_regions (region blocks more) h = (of_blocks blocks h.0, of_regions more h.1)

    of_blocks : (bs : Blocks) → EachBlock P U bs → EachBlock Q V bs
    of_blocks end_of_blocks h = tt
    of_blocks (block l args ops more) h = (label l h.0, of_values args h.1, of_ops ops h.2, of_blocks more h.3)

-- a table whose bases are above all numbers of a function gives fresh ones
pub fresh_table : (t : Numbering) (f : Op) → EachOp (λ n. n < t.base) (λ l. l < t.label_base) f → Fresh (supply_of t) f
fresh_table t f h = record {
  values = values_fresh t;
  labels = λ m j n k. based t.label_base t.labels (of_row m j) (of_row n k);
  apart = of_op (λ n. n < t.base) (IsOld (supply_of t)) (λ l. l < t.label_base) (IsOldLabel (supply_of t)) (old_value t) (old_label t) f h;
}

-- so does each table that extends one with the tops behind the function as its bases
pub fresh_behind : (f : Op) (s : Tops) (t u : Numbering) → t.base ≡ (over_op f s).values → t.label_base ≡ (over_op f s).labels → Extends t u → Fresh (supply_of u) f
fresh_behind f s t u base labels h =
    fresh_table u f (subst (λ n. EachOp (λ m. m < n) (λ l. l < u.label_base) f) (sym (h.base ∙ base))
    (subst (λ n. EachOp (λ m. m < (over_op f s).values) (λ l. l < n) f) (sym (h.label_base ∙ labels)) (each_below f s)))
