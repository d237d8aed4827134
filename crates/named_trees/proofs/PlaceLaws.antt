-- Which place names a value.
use Rattle.std.proofs.Common.{◌≡◌, ◌⊎◌, inl, inr, ℕ, suc, ◌+◌, ◌==◌, ◌||◌, Bool, true, false, cond, List, [], ◌∷◌, ◌++◌, Option, Some, None, refl, sym, ap, ◌∙◌, true≢false, arith, append_assoc}
use Rattle.std.specs.Prelude.{is_some, option_map, option_and_then, find, position, count_by, if◌then◌else◌}
use Rattle.std.specs.List.{list_any, position_from}
use Rattle.std.proofs.lemmas.List.Sums.{sum_by-cons}
use Rattle.std.proofs.lemmas.Iterator.Adapters.{position_from-zero}
use Rattle.mlir_lex.proofs.Lengths.{and-left, and-right, eqb-is}
use Rattle.tree_model.specs.declared.type_tree.TypeTree.{TypeTree}
use Rattle.plain_tree.specs.Ops.{Values, values_tree}
use Rattle.text_model.specs.declared.value_name.ValueName.{ValueName}
use Rattle.text_model.specs.declared.value_name.ValueName.TheVariants.{Argument, Single, Part}
use Rattle.text_model.specs.PrintedPlaces.{Place, argument_at, single_at, group_at, successor_at, block_at}
use Rattle.text_model.specs.PrintedNames.{defines, is_argument, is_other, name_at, places_before, value_name}
use Rattle.printed_trees.specs.Numbering.{are_counted}
use Rattle.named_trees.specs.Named.{shown}

pub same_some : {A : Type 0} (x y : A) → ◌≡◌ {A = Option A} (Some x) (Some y) → x ≡ y
same_some x y e = cc

none_some : {A : Type 0} {P : Type 0} (x : A) → ◌≡◌ {A = Option A} None (Some x) → P
none_some x e = absurd cc

-- the place that names a value
record NamedAt (before ps : List Place) (v : ℕ) (name : ValueName) : Type 0 where
  pre : List Place
  place : Place
  post : List Place
  is : ps ≡ pre ++ place ∷ post
  defined : defines v place ≡ true
  named : name_at v (before ++ pre) place ≡ Some name

abbrev found_name : List Place → List Place → ℕ → Option ValueName
found_name before ps v = option_and_then (name_at v (before ++ places_before v ps)) (find (defines v) ps)

named_by : (before ps : List Place) (v : ℕ) (name : ValueName) → found_name before ps v ≡ Some name → NamedAt before ps v name
named_by before [] v name e = none_some name e
named_by before (p ∷ ps) v name e = by_test (defines v p) refl e (λ h. named_by (before ++ p ∷ []) ps v name h)
  where
    by_test : (b : Bool) → defines v p ≡ b → option_and_then (name_at v (before ++ (if b then [] else p ∷ places_before v ps))) (cond b (Some p) (find (defines v) ps)) ≡ Some name
        → (found_name (before ++ p ∷ []) ps v ≡ Some name → NamedAt (before ++ p ∷ []) ps v name) → NamedAt before (p ∷ ps) v name
    by_test true d e deep = record { pre = []; place = p; post = ps; is = refl; defined = d; named = e }
    by_test false d e deep =
        let m = deep (ap (λ b. option_and_then (name_at v b) (find (defines v) ps)) (append_assoc before (p ∷ []) (places_before v ps)) ∙ e) in
        record { pre = p ∷ m.pre; place = m.place; post = m.post; is = ap (λ x. p ∷ x) m.is; defined = m.defined; named = ap (λ b. name_at v b m.place) (sym (append_assoc before (p ∷ []) m.pre)) ∙ m.named }

-- the first place that defines a value names it
first_name_by : (before pre : List Place) (p : Place) (post : List Place) (u : ℕ) → list_any (defines u) pre ≡ false → defines u p ≡ true → found_name before (pre ++ p ∷ post) u ≡ name_at u (before ++ pre) p
first_name_by before [] p post u n d = ap (λ b. option_and_then (name_at u (before ++ (if b then [] else p ∷ places_before u post))) (cond b (Some p) (find (defines u) post))) d
first_name_by before (x ∷ pre) p post u n d = by_test (defines u x) refl n (λ h. first_name_by (before ++ x ∷ []) pre p post u h d)
  where
    by_test : (b : Bool) → defines u x ≡ b → (b || list_any (defines u) pre) ≡ false → (list_any (defines u) pre ≡ false → found_name (before ++ x ∷ []) (pre ++ p ∷ post) u ≡ name_at u ((before ++ x ∷ []) ++ pre) p)
        → found_name before ((x ∷ pre) ++ p ∷ post) u ≡ name_at u (before ++ x ∷ pre) p
    by_test true e n deep = absurd (true≢false n)
    by_test false e n deep =
        ap (λ b. option_and_then (name_at u (before ++ (if b then [] else x ∷ places_before u (pre ++ p ∷ post)))) (cond b (Some x) (find (defines u) (pre ++ p ∷ post)))) e
        ∙ ap (λ b. option_and_then (name_at u b) (find (defines u) (pre ++ p ∷ post))) (sym (append_assoc before (x ∷ []) (places_before u (pre ++ p ∷ post))))
        ∙ deep n ∙ ap (λ b. name_at u b p) (append_assoc before (x ∷ []) pre)

pub first_name : (pre : List Place) (p : Place) (post : List Place) (u : ℕ) → list_any (defines u) pre ≡ false → defines u p ≡ true → value_name (pre ++ p ∷ post) u ≡ name_at u pre p
first_name pre p post u n d = first_name_by [] pre p post u n d

-- One place of a kind has so many of the kind before it

counted_yes : (t : Place → Bool) (x : Place) (xs : List Place) → t x ≡ true → count_by t (x ∷ xs) ≡ suc (count_by t xs)
counted_yes t x xs h = sum_by-cons (λ y. cond (t y) 1 0) x xs ∙ ap (λ b. cond b 1 0 + count_by t xs) h ∙ omega arith

only : (t : Place → Bool) (xs ys : List Place) (p q : Place) (r s : List Place) → xs ++ p ∷ r ≡ ys ++ q ∷ s → t p ≡ true → t q ≡ true → count_by t xs ≡ count_by t ys → (xs ≡ ys) × (p ≡ q)
only t [] [] p q r s e tp tq c = (refl, heads p q r s e)
  where
    heads : (p q : Place) (r s : List Place) → p ∷ r ≡ q ∷ s → p ≡ q
    heads p q r s e = cc
only t [] (y ∷ ys) p q r s e tp tq c = absurd (none (count_by t ys) (c ∙ counted_yes t y ys (sym (ap t (heads p y r (ys ++ q ∷ s) e)) ∙ tp)))
  where
    heads : (p q : Place) (r s : List Place) → p ∷ r ≡ q ∷ s → p ≡ q
    heads p q r s e = cc

    none : (n : ℕ) → count_by t [] ≡ suc n → ⊥
    none n e = omega (arith, e)
only t (x ∷ xs) [] p q r s e tp tq c = absurd (none (count_by t xs) (sym c ∙ counted_yes t x xs (ap t (heads x q (xs ++ p ∷ r) s e) ∙ tq)))
  where
    heads : (p q : Place) (r s : List Place) → p ∷ r ≡ q ∷ s → p ≡ q
    heads p q r s e = cc

    none : (n : ℕ) → count_by t [] ≡ suc n → ⊥
    none n e = omega (arith, e)
only t (x ∷ xs) (y ∷ ys) p q r s e tp tq c =
    let same : x ≡ y = heads x y (xs ++ p ∷ r) (ys ++ q ∷ s) e in
    let rest = only t xs ys p q r s (tails x y (xs ++ p ∷ r) (ys ++ q ∷ s) e) tp tq (counts (cond (t x) 1 0) (cond (t y) 1 0) (count_by t xs) (count_by t ys) (ap (λ z. cond (t z) 1 0) same) (sym (sum_by-cons (λ z. cond (t z) 1 0) x xs) ∙ c ∙ sum_by-cons (λ z. cond (t z) 1 0) y ys)) in
    (λ i. same i ∷ rest.0 i, rest.1)
  where
    heads : (p q : Place) (r s : List Place) → p ∷ r ≡ q ∷ s → p ≡ q
    heads p q r s e = cc

    tails : (p q : Place) (r s : List Place) → p ∷ r ≡ q ∷ s → r ≡ s
    tails p q r s e = cc

    counts : (a b m n : ℕ) → a ≡ b → a + m ≡ b + n → m ≡ n
    counts a b m n e f = omega (arith, e, f)

-- What a place shows

abbrev kind_of : Bool → Bool → ℕ → ℕ → Option ValueName
kind_of true other a o = Some (Argument a)
kind_of false true a o = Some (Single o)
kind_of false false a o = None

abbrev kind_at : List Place → Place → Option ValueName
kind_at before p = kind_of (is_argument p) (is_other p) (count_by is_argument before) (count_by is_other before)

found_from : (t : (ℕ × TypeTree) → Bool) (k : ℕ) (vs : List (ℕ × TypeTree)) → list_any t vs ≡ true → is_some (position_from t k vs) ≡ true
found_from t k [] h = absurd (true≢false (sym h))
found_from t k (v ∷ vs) h = by_test (t v) h (λ d. found_from t (k + 1) vs d)
  where
    by_test : (b : Bool) → (b || list_any t vs) ≡ true → (list_any t vs ≡ true → is_some (position_from t (k + 1) vs) ≡ true) → is_some (cond b (Some k) (position_from t (k + 1) vs)) ≡ true
    by_test true h deep = refl
    by_test false h deep = deep h

part_shown : (c : ℕ) (o : Option ℕ) → is_some o ≡ true → shown (option_map (Part c) o) ≡ Some (Single c)
part_shown c None h = absurd (true≢false (sym h))
part_shown c (Some j) h = refl

shown_at : (before : List Place) (p : Place) (u : ℕ) → defines u p ≡ true → shown (name_at u before p) ≡ kind_at before p
shown_at before (argument_at v) u d = refl
shown_at before (single_at v) u d = refl
shown_at before (group_at vs) u d = part_shown (count_by is_other before) (position (λ v. v.0 == u) vs) (ap is_some (position_from-zero (λ v. v.0 == u) vs) ∙ found_from (λ v. v.0 == u) 0 vs d)
shown_at before (successor_at label) u d = absurd (true≢false (sym d))
shown_at before (block_at n label) u d = absurd (true≢false (sym d))

-- values of one place are shown alike
pub shown_alike : (before : List Place) (p : Place) (u v : ℕ) → defines u p ≡ true → defines v p ≡ true → shown (name_at u before p) ≡ shown (name_at v before p)
shown_alike before p u v d e = shown_at before p u d ∙ sym (shown_at before p v e)

pub some_at : (before : List Place) (p : Place) (u : ℕ) → defines u p ≡ true → is_some (name_at u before p) ≡ true
some_at before (argument_at v) u d = refl
some_at before (single_at v) u d = refl
some_at before (group_at vs) u d = mapped (position (λ v. v.0 == u) vs) (ap is_some (position_from-zero (λ v. v.0 == u) vs) ∙ found_from (λ v. v.0 == u) 0 vs d)
  where
    mapped : (o : Option ℕ) → is_some o ≡ true → is_some (option_map (Part (count_by is_other before)) o) ≡ true
    mapped None h = absurd (true≢false (sym h))
    mapped (Some j) h = refl
some_at before (successor_at label) u d = absurd (true≢false (sym d))
some_at before (block_at n label) u d = absurd (true≢false (sym d))

-- of one kind, and so many before
record OneKind (a o b q : Bool) (ca co cb cq : ℕ) : Type 0 where
  kind : ((a ≡ true) × (b ≡ true) × (ca ≡ cb)) ⊎ ((o ≡ true) × (q ≡ true) × (co ≡ cq))

one_kind : (a o b q : Bool) (ca co cb cq : ℕ) → kind_of a o ca co ≡ kind_of b q cb cq → is_some (kind_of a o ca co) ≡ true → OneKind a o b q ca co cb cq
one_kind true o true q ca co cb cq e h = record { kind = inl (refl, refl, counts ca cb e) }
  where
    counts : (m n : ℕ) → ◌≡◌ {A = Option ValueName} (Some (Argument m)) (Some (Argument n)) → m ≡ n
    counts m n e = cc
one_kind true o false true ca co cb cq e h = absurd (apart ca cq e)
  where
    apart : (m n : ℕ) → ◌≡◌ {A = Option ValueName} (Some (Argument m)) (Some (Single n)) → ⊥
    apart m n e = cc
one_kind true o false false ca co cb cq e h = none_some (Argument ca) (sym e)
one_kind false true true q ca co cb cq e h = absurd (apart co cb e)
  where
    apart : (m n : ℕ) → ◌≡◌ {A = Option ValueName} (Some (Single m)) (Some (Argument n)) → ⊥
    apart m n e = cc
one_kind false true false true ca co cb cq e h = record { kind = inr (refl, refl, counts co cq e) }
  where
    counts : (m n : ℕ) → ◌≡◌ {A = Option ValueName} (Some (Single m)) (Some (Single n)) → m ≡ n
    counts m n e = cc
one_kind false true false false ca co cb cq e h = none_some (Single co) (sym e)
one_kind false false b q ca co cb cq e h = absurd (true≢false (sym h))

-- a value that is shown as one that a place defines first is named by that place
pub record NamedHere (pre : List Place) (p : Place) (v : ℕ) (name : ValueName) : Type 0 where
  pub defined : defines v p ≡ true
  pub named : name_at v pre p ≡ Some name

pub owned : (pre : List Place) (p : Place) (post : List Place) (u v : ℕ) (name : ValueName) → list_any (defines u) pre ≡ false → defines u p ≡ true → value_name (pre ++ p ∷ post) v ≡ Some name
    → shown (Some name) ≡ shown (value_name (pre ++ p ∷ post) u) → NamedHere pre p v name
owned pre p post u v name n d e same =
    let m = named_by [] (pre ++ p ∷ post) v name e in
    let mine : shown (Some name) ≡ kind_at m.pre m.place = ap shown (sym m.named) ∙ shown_at m.pre m.place v m.defined in
    let yours : shown (Some name) ≡ kind_at pre p = same ∙ ap shown (first_name pre p post u n d) ∙ shown_at pre p u d in
    let some : is_some (kind_at m.pre m.place) ≡ true = ap is_some (sym mine) ∙ shown_some name in
    by_kind m (one_kind (is_argument m.place) (is_other m.place) (is_argument p) (is_other p) (count_by is_argument m.pre) (count_by is_other m.pre) (count_by is_argument pre) (count_by is_other pre) (sym mine ∙ yours) some).kind
  where
    shown_some : (x : ValueName) → is_some (shown (Some x)) ≡ true
    shown_some (Argument k) = refl
    shown_some (Single k) = refl
    shown_some (Part k j) = refl

    here : (m : NamedAt [] (pre ++ p ∷ post) v name) → (m.pre ≡ pre) × (m.place ≡ p) → NamedHere pre p v name
    here m s = record { defined = sym (ap (defines v) s.1) ∙ m.defined; named = sym (ap (λ b. name_at v b m.place) s.0 ∙ ap (name_at v pre) s.1) ∙ m.named }

    by_kind : (m : NamedAt [] (pre ++ p ∷ post) v name)
        → ((is_argument m.place ≡ true) × (is_argument p ≡ true) × (count_by is_argument m.pre ≡ count_by is_argument pre)) ⊎ ((is_other m.place ≡ true) × (is_other p ≡ true) × (count_by is_other m.pre ≡ count_by is_other pre)) → NamedHere pre p v name
    by_kind m (inl h) = here m (only is_argument m.pre pre m.place p m.post post (sym m.is) h.0 h.1 h.2)
    by_kind m (inr h) = here m (only is_other m.pre pre m.place p m.post post (sym m.is) h.0 h.1 h.2)

-- the place of a value in a group that is numbered in order
pub in_order : (m k v j : ℕ) (vs : Values) → are_counted m vs ≡ true → position_from (λ w. w.0 == v) k (values_tree vs) ≡ Some j → v + k ≡ m + j
in_order m k v j [] c e = none_some j e
in_order m k v j (w ∷ vs) c e = by_test (w.0 == v) refl e (λ h. in_order (m + 1) (k + 1) v j vs (and-right (w.0 == m) _ c) h)
  where
    first : w.0 ≡ m
    first = eqb-is w.0 m (and-left _ _ c)

    by_test : (b : Bool) → (w.0 == v) ≡ b → cond b (Some k) (position_from (λ w. w.0 == v) (k + 1) (values_tree vs)) ≡ Some j → (position_from (λ w. w.0 == v) (k + 1) (values_tree vs) ≡ Some j → v + (k + 1) ≡ m + 1 + j) → v + k ≡ m + j
    by_test true is e deep = sums w.0 (eqb-is w.0 v is) first (same_some k j e)
      where
        sums : (x : ℕ) → x ≡ v → x ≡ m → k ≡ j → v + k ≡ m + j
        sums x a b c = omega (arith, a, b, c)
    by_test false is e deep = less (deep e)
      where
        less : v + (k + 1) ≡ m + 1 + j → v + k ≡ m + j
        less h = omega (arith, h)
