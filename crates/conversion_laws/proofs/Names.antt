-- The names of the values of a template that is written down.
use Rattle.std.proofs.Common.{◌≡◌, ◌⊎◌, inl, inr, ℕ, zero, suc, ◌==◌, Bool, true, false, List, [], ◌∷◌, Option, Some, None, map, get_or, refl, sym, ap, ◌∙◌, subst, arith, true≢false}
use Rattle.std.specs.Prelude.{slice_get, ◌||◌, if◌then◌else◌}
use Rattle.std.proofs.lemmas.Bool.{eqb-true}
use Rattle.conversion_model.proofs.ReconcileLaws.{same_number}
use Rattle.operation_model.specs.Values.{Value}
use Rattle.form_model.specs.Codes.{Env, lookup, lookups, and_value}
use Rattle.plain_tree.specs.Types.{PlainType}
use Rattle.conversion_model.specs.declared.templates.Source.{Source}
use Rattle.conversion_model.specs.declared.templates.Source.TheVariants.{Operand, Made}
use Rattle.conversion_model.specs.Templates.{label_at, labels_at, named, number_of}
use Rattle.rule_model.specs.Words.{has}
use Rattle.sound_model.specs.Runs.{item_of, items_of, labels_in}
use Rattle.chosen_laws.proofs.Lists.{Both, both, none_some, some_same}

-- Numbers

pub differ : (m n : ℕ) → (m ≡ n → ⊥) → (m == n) ≡ false
differ m n h = go (m == n) refl
  where
    go : (b : Bool) → (m == n) ≡ b → b ≡ false
    go true is = absurd (h (eqb-true m n is))
    go false is = refl

pub not_same : (m n : ℕ) → (m == n) ≡ false → m ≡ n → ⊥
not_same m n is same = true≢false (sym (same_number m n same) ∙ is)

-- no number stands twice
pub data Distinct : List ℕ → Type 0 where
  none_distinct : Distinct []
  one_more : {r : ℕ} {rs : List ℕ} → has r rs ≡ false → Distinct rs → Distinct (r ∷ rs)

pub has_rest : (r n : ℕ) (rs : List ℕ) → has n (r ∷ rs) ≡ false → ((r == n) ≡ false) × (has n rs ≡ false)
has_rest r n rs h = go (r == n) refl
  where
    go : (b : Bool) → (r == n) ≡ b → ((r == n) ≡ false) × (has n rs ≡ false)
    go true is = absurd (true≢false (sym (ap (λ c. c || has n rs) is) ∙ h))
    go false is = (is, sym (ap (λ c. c || has n rs) is) ∙ h)

-- Names

-- new numbers are apart from each other and from the results
pub record NewNumbers (new : ℕ → ℕ) (rs : List ℕ) : Type 0 where
  pub apart : (j k : ℕ) → new j ≡ new k → j ≡ k
  pub fresh : (k : ℕ) → has (new k) rs ≡ false

-- a name is new, or a result
pub name_is : (new : ℕ → ℕ) (rs : List ℕ) (ss : List Source) (n : ℕ) → (named new rs ss n ≡ new n) ⊎ (has (named new rs ss n) rs ≡ true)
name_is new [] ss n = inl refl
name_is new (r ∷ rs) [] n = inl refl
name_is new (r ∷ rs) (Operand k ∷ ss) n = later (name_is new rs ss n)
  where
    later : (named new rs ss n ≡ new n) ⊎ (has (named new rs ss n) rs ≡ true) → (named new rs ss n ≡ new n) ⊎ (has (named new rs ss n) (r ∷ rs) ≡ true)
    later (inl h) = inl h
    later (inr h) = inr (or_true (r == named new rs ss n) (has (named new rs ss n) rs) h)
      where
        or_true : (a b : Bool) → b ≡ true → (a || b) ≡ true
        or_true true b is = refl
        or_true false b is = is
name_is new (r ∷ rs) (Made k ∷ ss) n = go (k == n) (name_is new rs ss n)
  where
    or_true : (a b : Bool) → b ≡ true → (a || b) ≡ true
    or_true true b is = refl
    or_true false b is = is

    go : (b : Bool) → (named new rs ss n ≡ new n) ⊎ (has (named new rs ss n) rs ≡ true)
        → ((if b then r else named new rs ss n) ≡ new n) ⊎ (has (if b then r else named new rs ss n) (r ∷ rs) ≡ true)
    go true h = inr (ap (λ c. c || has r rs) (same_number r r refl))
    go false (inl h) = inl h
    go false (inr h) = inr (or_true (r == named new rs ss n) (has (named new rs ss n) rs) h)

-- two names are the same only for one value
pub one_name : (new : ℕ → ℕ) (rs : List ℕ) (ss : List Source) → NewNumbers new rs → Distinct rs → (m n : ℕ) → named new rs ss m ≡ named new rs ss n → m ≡ n
one_name new [] ss fresh distinct m n is = fresh.apart m n is
one_name new (r ∷ rs) [] fresh distinct m n is = fresh.apart m n is
one_name new (r ∷ rs) (Operand k ∷ ss) fresh (one_more apart distinct) m n is =
    one_name new rs ss (record { apart = fresh.apart; fresh = λ j. (has_rest r (new j) rs (fresh.fresh j)).1 }) distinct m n is
one_name new (r ∷ rs) (Made k ∷ ss) fresh (one_more apart distinct) m n is =
    go (k == m) (k == n) refl refl is (one_name new rs ss (record { apart = fresh.apart; fresh = λ j. (has_rest r (new j) rs (fresh.fresh j)).1 }) distinct m n)
  where
    not_r : (j : ℕ) → (named new rs ss j ≡ new j) ⊎ (has (named new rs ss j) rs ≡ true) → r ≡ named new rs ss j → ⊥
    not_r j (inl h) same = not_same r (new j) (has_rest r (new j) rs (fresh.fresh j)).0 (same ∙ h)
    not_r j (inr h) same = true≢false (sym h ∙ ap (λ x. has x rs) (sym same) ∙ apart)

    go : (a b : Bool) → (k == m) ≡ a → (k == n) ≡ b → (if a then r else named new rs ss m) ≡ (if b then r else named new rs ss n) → (named new rs ss m ≡ named new rs ss n → m ≡ n) → m ≡ n
    go true true i j same later = sym (eqb-true k m i) ∙ eqb-true k n j
    go true false i j same later = absurd (not_r n (name_is new rs ss n) same)
    go false true i j same later = absurd (not_r m (name_is new rs ss m) (sym same))
    go false false i j same later = later same

-- Values under names

-- the value of each made one stands under its name
abbrev pub Named : (ℕ → ℕ) → List Value → Env → Type 0
Named name made env = (k : ℕ) (v : Value) → slice_get made k ≡ Some v → lookup (name k) env ≡ Some v

pub both_values : (x : Option Value) (xs : Option (List Value)) (all : List Value) → and_value x xs ≡ Some all → Both x xs all
both_values (Some a) (Some zs) all e = record { first = a; rest = zs; first_is = refl; rest_is = refl; is = sym (some_same e) }
both_values (Some a) None all e = absurd (none_some e)
both_values None xs all e = absurd (none_some e)

pub and_values : {x : Option Value} {xs : Option (List Value)} {a : Value} {zs : List Value} → x ≡ Some a → xs ≡ Some zs → and_value x xs ≡ Some (a ∷ zs)
and_values {xs} {a} e f = ap (λ y. and_value y xs) e ∙ ap (and_value (Some a)) f

lookup_value : (os : List ℕ) (env : Env) (args : List Value) (k d : ℕ) (v : Value) → lookups os env ≡ Some args → slice_get args k ≡ Some v → lookup (get_or os k d) env ≡ Some v
lookup_value [] env args k d v e f = absurd (none_some (subst (λ xs. slice_get xs k ≡ Some v) (sym (some_same e)) f))
lookup_value (o ∷ os) env args zero d v e f =
    let b = both_values (lookup o env) (lookups os env) args e in b.first_is ∙ subst (λ xs. slice_get xs 0 ≡ Some v) b.is f
lookup_value (o ∷ os) env args (suc k) d v e f =
    let b = both_values (lookup o env) (lookups os env) args e in lookup_value os env b.rest k d v b.rest_is (subst (λ xs. slice_get xs (suc k) ≡ Some v) b.is f)

found_value : (name : ℕ → ℕ) (os : List ℕ) (env : Env) (args made : List Value) (s : Source) (v : Value) → lookups os env ≡ Some args → Named name made env
    → item_of args made s ≡ Some v → lookup (number_of name os s) env ≡ Some v
found_value name os env args made (Operand k) v e named f = lookup_value os env args k (name 0) v e f
found_value name os env args made (Made k) v e named f = named k v f

pub found_values : (name : ℕ → ℕ) (os : List ℕ) (env : Env) (args made : List Value) (ss : List Source) (vs : List Value) → lookups os env ≡ Some args → Named name made env
    → items_of args made ss ≡ Some vs → lookups (map (number_of name os) ss) env ≡ Some vs
found_values name os env args made [] vs e named f = f
found_values name os env args made (s ∷ ss) vs e named f =
    let b = both (item_of args made s) (items_of args made ss) vs f in
    and_values (found_value name os env args made s b.first e named b.first_is) (found_values name os env args made ss b.rest e named b.rest_is) ∙ ap Some (sym b.is)

-- Types

-- the type of each made one is that of its name
abbrev pub TypesNamed : (ℕ → PlainType) → (ℕ → ℕ) → List PlainType → Type 0
TypesNamed ty name made = (k : ℕ) (t : PlainType) → slice_get made k ≡ Some t → ty (name k) ≡ t

mapped_type : (ty : ℕ → PlainType) (os : List ℕ) (k d : ℕ) (t : PlainType) → slice_get (map ty os) k ≡ Some t → ty (get_or os k d) ≡ t
mapped_type ty [] k d t e = absurd (none_some e)
mapped_type ty (o ∷ os) zero d t e = some_same e
mapped_type ty (o ∷ os) (suc k) d t e = mapped_type ty os k d t e

found_type : (ty : ℕ → PlainType) (name : ℕ → ℕ) (os : List ℕ) (types made : List PlainType) (s : Source) (t : PlainType) → map ty os ≡ types → TypesNamed ty name made
    → item_of types made s ≡ Some t → ty (number_of name os s) ≡ t
found_type ty name os types made (Operand k) t e named f = mapped_type ty os k (name 0) t (ap (λ xs. slice_get xs k) e ∙ f)
found_type ty name os types made (Made k) t e named f = named k t f

pub found_types : (ty : ℕ → PlainType) (name : ℕ → ℕ) (os : List ℕ) (types made : List PlainType) (ss : List Source) (ts : List PlainType) → map ty os ≡ types → TypesNamed ty name made
    → items_of types made ss ≡ Some ts → map ty (map (number_of name os) ss) ≡ ts
found_types ty name os types made [] ts e named f = some_same f
found_types ty name os types made (s ∷ ss) ts e named f =
    let b = both (item_of types made s) (items_of types made ss) ts f in
    ap (λ t. t ∷ map ty (map (number_of name os) ss)) (found_type ty name os types made s b.first e named b.first_is)
    ∙ ap (λ us. b.first ∷ us) (found_types ty name os types made ss b.rest e named b.rest_is) ∙ sym b.is

-- Labels

not_first : (k : ℕ) → (suc k == 0) ≡ false
not_first k = differ (suc k) 0 (λ same. omega (arith, same))

found_label : (labels : List ℕ) (k l : ℕ) (more : List ℕ) → slice_get labels k ≡ Some l → label_at labels k more ≡ l ∷ more
found_label [] k l more e = absurd (none_some e)
found_label (j ∷ labels) zero l more e = ap (λ x. x ∷ more) (some_same e)
found_label (j ∷ labels) (suc k) l more e = ap (λ b. if b then j ∷ more else label_at labels k more) (not_first k) ∙ found_label labels k l more e

pub found_labels : (labels ks ls : List ℕ) → labels_in labels ks ≡ Some ls → labels_at labels ks ≡ ls
found_labels labels [] ls e = some_same e
found_labels labels (k ∷ ks) ls e =
    let b = both (slice_get labels k) (labels_in labels ks) ls e in
    found_label labels k b.first (labels_at labels ks) b.first_is ∙ ap (λ xs. b.first ∷ xs) (found_labels labels ks b.rest b.rest_is) ∙ sym b.is
