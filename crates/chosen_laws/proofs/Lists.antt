-- What sources are among operands and values: lemmas over lists of anything.
use Rattle.std.proofs.Common.{◌≡◌, ℕ, zero, suc, ◌+◌, List, [], ◌∷◌, ◌++◌, Option, Some, None, length, map, get_or, refl, sym, ap, ◌∙◌, subst, arith}
use Rattle.std.specs.Prelude.{slice_get}
use Rattle.conversion_model.specs.declared.templates.Source.{Source}
use Rattle.conversion_model.specs.declared.templates.Source.TheVariants.{Operand, Made}
use Rattle.conversion_model.specs.Chosen.{placed}
use Rattle.sound_model.specs.Runs.{and_item, item_of, items_of, labels_in}

abbrev Some? : {A : Type 0} → Option A → Type 0
Some? None = ⊥
Some? (Some a) = Unit {0}

pub none_some : {A : Type 0} {a : A} → None ≡ Some a → ⊥
none_some e = subst Some? (sym e) tt

value_or : {A : Type 0} → A → Option A → A
value_or a None = a
value_or a (Some b) = b

pub some_same : {A : Type 0} {a b : A} → Some a ≡ Some b → a ≡ b
unfolding value_or
some_same {a} e = ap (value_or a) e

-- both parts of what is there
pub record Both {A : Type 0} (x : Option A) (xs : Option (List A)) (all : List A) : Type 0 where
  pub first : A
  pub rest : List A
  pub first_is : x ≡ Some first
  pub rest_is : xs ≡ Some rest
  pub is : all ≡ first ∷ rest

pub both : {A : Type 0} (x : Option A) (xs : Option (List A)) (all : List A) → and_item x xs ≡ Some all → Both x xs all
both (Some a) (Some zs) all e = record { first = a; rest = zs; first_is = refl; rest_is = refl; is = sym (some_same e) }
both (Some a) None all e = absurd (none_some e)
both None xs all e = absurd (none_some e)

pub and_both : {A : Type 0} {x : Option A} {xs : Option (List A)} {a : A} {zs : List A} → x ≡ Some a → xs ≡ Some zs → and_item x xs ≡ Some (a ∷ zs)
and_both {xs} {a} e f = ap (λ y. and_item y xs) e ∙ ap (and_item (Some a)) f

-- Places in lists

pub get_more : {A : Type 0} (xs ys : List A) (k : ℕ) (a : A) → slice_get xs k ≡ Some a → slice_get (xs ++ ys) k ≡ Some a
get_more [] ys k a e = absurd (none_some e)
get_more (x ∷ xs) ys zero a e = e
get_more (x ∷ xs) ys (suc k) a e = get_more xs ys k a e

suc_plus : (n k : ℕ) → suc n + k ≡ suc (n + k)
suc_plus n k = omega arith

zero_plus : (k : ℕ) → 0 + k ≡ k
zero_plus k = omega arith

pub get_behind : {A : Type 0} (xs ys : List A) (k : ℕ) → slice_get (xs ++ ys) (length xs + k) ≡ slice_get ys k
get_behind [] ys k = ap (slice_get ys) (zero_plus k)
get_behind (x ∷ xs) ys k = ap (slice_get (x ∷ (xs ++ ys))) (suc_plus (length xs) k) ∙ get_behind xs ys k

pub get_at_end : {A : Type 0} (xs : List A) (a : A) (n : ℕ) → length xs ≡ n → slice_get (xs ++ a ∷ []) n ≡ Some a
get_at_end xs a n is = ap (slice_get (xs ++ a ∷ [])) (omega (arith, is)) ∙ get_behind xs (a ∷ []) 0

pub or_there : {A : Type 0} (xs : List A) (k : ℕ) (d a : A) → slice_get xs k ≡ Some a → get_or xs k d ≡ a
or_there [] k d a e = absurd (none_some e)
or_there (x ∷ xs) zero d a e = some_same e
or_there (x ∷ xs) (suc k) d a e = or_there xs k d a e

-- Sources

pub item_more : {A : Type 0} (operands made more : List A) (s : Source) (a : A) → item_of operands made s ≡ Some a → item_of operands (made ++ more) s ≡ Some a
item_more operands made more (Operand k) a e = e
item_more operands made more (Made k) a e = get_more made more k a e

pub items_more : {A : Type 0} (operands made more : List A) (ss : List Source) (zs : List A) → items_of operands made ss ≡ Some zs → items_of operands (made ++ more) ss ≡ Some zs
items_more operands made more [] zs e = e
items_more operands made more (s ∷ ss) zs e =
    let b = both (item_of operands made s) (items_of operands made ss) zs e in
    and_both (item_more operands made more s b.first b.first_is) (items_more operands made more ss b.rest b.rest_is) ∙ ap Some (sym b.is)

pub items_append : {A : Type 0} (operands made : List A) (ss ts : List Source) (zs bs : List A) → items_of operands made ss ≡ Some zs → items_of operands made ts ≡ Some bs → items_of operands made (ss ++ ts) ≡ Some (zs ++ bs)
items_append operands made [] ts zs bs e f = f ∙ ap (λ xs. Some (xs ++ bs)) (some_same e)
items_append operands made (s ∷ ss) ts zs bs e f =
    let b = both (item_of operands made s) (items_of operands made ss) zs e in
    and_both b.first_is (items_append operands made ss ts b.rest bs b.rest_is f) ∙ ap (λ xs. Some (xs ++ bs)) (sym b.is)

-- a source among sources
pub item_at : {A : Type 0} (operands made : List A) (ss : List Source) (zs : List A) (k : ℕ) (d : Source) (a : A)
    → items_of operands made ss ≡ Some zs → slice_get zs k ≡ Some a → item_of operands made (get_or ss k d) ≡ Some a
item_at operands made [] zs k d a e f = absurd (none_some (subst (λ xs. slice_get xs k ≡ Some a) (sym (some_same e)) f))
item_at operands made (s ∷ ss) zs zero d a e f =
    let b = both (item_of operands made s) (items_of operands made ss) zs e in
    b.first_is ∙ subst (λ xs. slice_get xs 0 ≡ Some a) b.is f
item_at operands made (s ∷ ss) zs (suc k) d a e f =
    let b = both (item_of operands made s) (items_of operands made ss) zs e in
    item_at operands made ss b.rest k d a b.rest_is (subst (λ xs. slice_get xs (suc k) ≡ Some a) b.is f)

pub items_count : {A : Type 0} (operands made : List A) (ss : List Source) (zs : List A) → items_of operands made ss ≡ Some zs → length zs ≡ length ss
items_count operands made [] zs e = ap length (sym (some_same e))
items_count operands made (s ∷ ss) zs e =
    let b = both (item_of operands made s) (items_of operands made ss) zs e in
    ap length b.is ∙ ap suc (items_count operands made ss b.rest b.rest_is)

pub labels_count : (labels ks ls : List ℕ) → labels_in labels ks ≡ Some ls → length ls ≡ length ks
labels_count labels [] ls e = ap length (sym (some_same e))
labels_count labels (k ∷ ks) ls e =
    let b = both (slice_get labels k) (labels_in labels ks) ls e in
    ap length b.is ∙ ap suc (labels_count labels ks b.rest b.rest_is)

-- a source of an inner template, in the place of which operands and values stand
pub placed_item : {A : Type 0} (operands base made inner : List A) (ss : List Source) (n : ℕ) (s : Source) (a : A)
    → items_of operands base ss ≡ Some inner → length base ≡ n → item_of inner made s ≡ Some a → item_of operands (base ++ made) (placed ss n s) ≡ Some a
placed_item operands base made inner ss n (Operand k) a e is f = item_more operands base made (get_or ss k (Operand k)) a (item_at operands base ss inner k (Operand k) a e f)
placed_item operands base made inner ss n (Made k) a e is f = ap (λ m. slice_get (base ++ made) (m + k)) (sym is) ∙ get_behind base made k ∙ f

pub placed_items : {A : Type 0} (operands base made inner : List A) (ss : List Source) (n : ℕ) (ts : List Source) (zs : List A)
    → items_of operands base ss ≡ Some inner → length base ≡ n → items_of inner made ts ≡ Some zs → items_of operands (base ++ made) (map (placed ss n) ts) ≡ Some zs
placed_items operands base made inner ss n [] zs e is f = f
placed_items operands base made inner ss n (t ∷ ts) zs e is f =
    let b = both (item_of inner made t) (items_of inner made ts) zs f in
    and_both (placed_item operands base made inner ss n t b.first e is b.first_is) (placed_items operands base made inner ss n ts b.rest e is b.rest_is) ∙ ap Some (sym b.is)

-- Labels of labels

pub label_of_label : (labels ks ls : List ℕ) (k l : ℕ) → labels_in labels ks ≡ Some ls → slice_get ls k ≡ Some l → slice_get labels (get_or ks k 0) ≡ Some l
label_of_label labels [] ls k l e f = absurd (none_some (subst (λ xs. slice_get xs k ≡ Some l) (sym (some_same e)) f))
label_of_label labels (j ∷ ks) ls zero l e f =
    let b = both (slice_get labels j) (labels_in labels ks) ls e in
    b.first_is ∙ subst (λ xs. slice_get xs 0 ≡ Some l) b.is f
label_of_label labels (j ∷ ks) ls (suc k) l e f =
    let b = both (slice_get labels j) (labels_in labels ks) ls e in
    label_of_label labels ks b.rest k l b.rest_is (subst (λ xs. slice_get xs (suc k) ≡ Some l) b.is f)

pub labels_of_labels : (labels ks ls js ms : List ℕ) → labels_in labels ks ≡ Some ls → labels_in ls js ≡ Some ms → labels_in labels (map (λ k. get_or ks k 0) js) ≡ Some ms
labels_of_labels labels ks ls [] ms e f = f
labels_of_labels labels ks ls (j ∷ js) ms e f =
    let b = both (slice_get ls j) (labels_in ls js) ms f in
    and_both (label_of_label labels ks ls j b.first e b.first_is) (labels_of_labels labels ks ls js b.rest e b.rest_is) ∙ ap Some (sym b.is)
