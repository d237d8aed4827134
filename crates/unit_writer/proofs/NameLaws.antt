-- Numbers that a table was asked for, one after another, and the names of a template's values.
use Rattle.std.proofs.Common.{◌≡◌, ℕ, zero, suc, ◌+◌, ◌<◌, ◌≤◌, ◌==◌, min, Bool, true, false, List, [], ◌∷◌, ◌++◌, Option, None, drop, take, get_or, length, map, refl, sym, ap, subst, ◌∙◌, arith}
use Rattle.std.specs.Prelude.{if◌then◌else◌}
use Rattle.std.proofs.lemmas.Bool.{eqb-true}
use Rattle.std.proofs.lemmas.List.{append_assoc, drop_all, drop_more, map-append, take_all, take_more}
use Rattle.plain_tree.specs.Types.{PlainType, plain_type}
use Rattle.plain_tree.specs.Ops.{Values, plain_values}
use Rattle.tree_model.specs.declared.type_tree.TypeTree.{TypeTree}
use Rattle.conversion_model.specs.declared.templates.Source.{Source}
use Rattle.conversion_model.specs.Templates.{label_at, numbers, values_made}
use Rattle.conversion_model.specs.Rows.{Numbers}
use Rattle.new_numbers.specs.Tables.{Extends, Numbering, supply_of}
use Rattle.unit_writer.specs.Names.{Asked, kept_as, new_results}
use Rattle.unit_writer.proofs.Going.{asked_as, asked_on}
use Rattle.unit_writer.proofs.ParamLaws.{values_joined}
use Rattle.unit_writer.proofs.SaysLaws.{front}

-- The values that results name

kept_unnamed : (rs : List ℕ) (n : ℕ) → kept_as rs [] n ≡ None
kept_unnamed [] n = refl
kept_unnamed (r ∷ rs) n = refl

-- behind the shorter list none is kept
pub kept_at_end : (results : List (ℕ × TypeTree)) (sources : List Source) (i n : ℕ) → i ≡ min (length results) (length sources) → kept_as (numbers (plain_values (drop i results))) (drop i sources) n ≡ None
kept_at_end [] ss i n e = ap (λ (xs : List (ℕ × TypeTree)). kept_as (numbers (plain_values xs)) (drop i ss) n) (drop_all i [] (omega arith))
kept_at_end (r ∷ rs) [] i n e =
    ap (λ xs. kept_as (numbers (plain_values (drop i (r ∷ rs)))) xs n) (drop_all i [] (omega arith)) ∙ kept_unnamed (numbers (plain_values (drop i (r ∷ rs)))) n
kept_at_end (r ∷ rs) (s ∷ ss) zero n e = absurd (omega (arith, e))
kept_at_end (r ∷ rs) (s ∷ ss) (suc i) n e = kept_at_end rs ss i n (omega (arith, e))

-- from the last to the first
pub kept_before : (results : List (ℕ × TypeTree)) (sources : List Source) (i j : ℕ) (r : ℕ × TypeTree) (s : Source) (o : Option ℕ) (n : ℕ) → i ≡ j + 1 → j < length results → j < length sources
    → o ≡ kept_as ((get_or results j r).0 ∷ numbers (plain_values (drop i results))) (get_or sources j s ∷ drop i sources) n → o ≡ kept_as (numbers (plain_values (drop j results))) (drop j sources) n
kept_before results sources i j r s o n e within inside put =
    put
    ∙ ap (λ k. kept_as ((get_or results j r).0 ∷ numbers (plain_values (drop k results))) (get_or sources j s ∷ drop k sources) n) e
    ∙ ap (λ ss. kept_as ((get_or results j r).0 ∷ numbers (plain_values (drop (j + 1) results))) ss n) (sym (drop_more sources j s inside))
    ∙ ap (λ rs. kept_as (numbers (plain_values rs)) (drop j sources) n) (sym (drop_more results j r within))

-- One more of a list

abbrev typed : ℕ → TypeTree → ℕ × PlainType
typed n t = (n, plain_type t)

taken : {A : Type 0} (xs : List A) (i : ℕ) (x : A) → i < length xs → x ≡ get_or xs i x → take (i + 1) xs ≡ take i xs ++ x ∷ []
taken xs i x within is = take_more xs i x within ∙ ap (λ y. take i xs ++ y ∷ []) (sym is)

pub list_next : {A B : Type 0} (f : Numbering → A → B) (t0 t1 t2 : Numbering) (xs : List A) (i : ℕ) (d : A) (ys zs : List B) (y : B) → i < length xs → zs ≡ ys ++ y ∷ []
    → Asked t0 t1 (λ u. map (f u) (take i xs) ≡ ys) → Asked t1 t2 (λ u. f u (get_or xs i d) ≡ y) → Asked t0 t2 (λ u. map (f u) (take (i + 1) xs) ≡ zs)
list_next f t0 t1 t2 xs i d ys zs y within pushed a b =
    asked_on t0 t1 t2 a b
    (λ u so_far one.
    ap (map (f u)) (take_more xs i d within) ∙ map-append (f u) (take i xs) (get_or xs i d ∷ [])
    ∙ ap (λ ws. ws ++ f u (get_or xs i d) ∷ []) so_far ∙ ap (λ w. ys ++ w ∷ []) one ∙ sym pushed)

pub list_ended : {A B : Type 0} (f : Numbering → A → B) (t0 t1 : Numbering) (xs : List A) (i : ℕ) (ys : List B) → length xs ≤ i → Asked t0 t1 (λ u. map (f u) (take i xs) ≡ ys) → Asked t0 t1 (λ u. map (f u) xs ≡ ys)
list_ended f t0 t1 xs i ys none a = asked_as t0 t1 a (λ u so_far. ap (map (f u)) (sym (take_all i xs none)) ∙ so_far)

-- the same for the results of a product, each with its type
result_more : (new : Numbers) (xs : List (ℕ × TypeTree)) (i n : ℕ) (x : ℕ × TypeTree) (ys zs : List (ℕ × TypeTree)) (t : TypeTree) → i < length xs → x ≡ get_or xs i x → t ≡ x.1 → zs ≡ ys ++ (n, t) ∷ []
    → new_results new (take i xs) ≡ plain_values ys → new.value x.0 ≡ n → new_results new (take (i + 1) xs) ≡ plain_values zs
result_more new xs i n x ys zs t within is copied pushed so_far named =
    ap (new_results new) (taken xs i x within is)
    ∙ map-append (λ (r : ℕ × TypeTree). typed (new.value r.0) r.1) (take i xs) (x ∷ [])
    ∙ ap (λ vs. vs ++ typed (new.value x.0) x.1 ∷ []) so_far
    ∙ ap (λ k. plain_values ys ++ typed k x.1 ∷ []) named
    ∙ ap (λ s. plain_values ys ++ typed n s ∷ []) (sym copied)
    ∙ sym (values_joined ys ((n, t) ∷ []))
    ∙ ap plain_values (sym pushed)

pub result_next : (m : ℕ) (t0 t1 t2 : Numbering) (xs : List (ℕ × TypeTree)) (i n : ℕ) (x : ℕ × TypeTree) (ys zs : List (ℕ × TypeTree)) (t : TypeTree) → i < length xs → x ≡ get_or xs i x → t ≡ x.1 → zs ≡ ys ++ (n, t) ∷ []
    → Extends t1 t2 → ((u : Numbering) → Extends t2 u → ((supply_of u).row m).value x.0 ≡ n)
    → Asked t0 t1 (λ u. new_results ((supply_of u).row m) (take i xs) ≡ plain_values ys) → Asked t0 t2 (λ u. new_results ((supply_of u).row m) (take (i + 1) xs) ≡ plain_values zs)
result_next m t0 t1 t2 xs i n x ys zs t within is copied pushed extends number a =
    asked_on {Q = λ u. ((supply_of u).row m).value x.0 ≡ n} t0 t1 t2 a (record { extends = extends; says = number })
    (λ u so_far named. result_more ((supply_of u).row m) xs i n x ys zs t within is copied pushed so_far named)

-- a value that is pushed with a copy of its type
pub pushed_as : (ps qs : List (ℕ × TypeTree)) (n : ℕ) (s t : TypeTree) → s ≡ t → qs ≡ ps ++ (n, s) ∷ [] → qs ≡ ps ++ (n, t) ∷ []
pushed_as ps qs n s t e pushed = subst (λ r. qs ≡ ps ++ (n, r) ∷ []) e pushed

-- the numbers of values
pub number_next : (xs : List (ℕ × TypeTree)) (i : ℕ) (x : ℕ × TypeTree) (ys zs : List ℕ) → i < length xs → x ≡ get_or xs i x → zs ≡ ys ++ x.0 ∷ [] → ys ≡ numbers (plain_values (take i xs)) → zs ≡ numbers (plain_values (take (i + 1) xs))
number_next xs i x ys zs within is pushed so_far =
    pushed ∙ ap (λ ns. ns ++ x.0 ∷ []) so_far
    ∙ sym (map-append (λ (v : ℕ × PlainType). v.0) (plain_values (take i xs)) (plain_values (x ∷ [])))
    ∙ ap numbers (sym (values_joined (take i xs) (x ∷ [])))
    ∙ ap (λ vs. numbers (plain_values vs)) (sym (taken xs i x within is))

-- The labels at places

not_first_by : (k : ℕ) (b : Bool) → (suc k == 0) ≡ b → b ≡ false
not_first_by k true is = absurd (omega (arith, eqb-true (suc k) 0 is))
not_first_by k false is = refl

not_first : (k : ℕ) → (suc k == 0) ≡ false
not_first k = not_first_by k (suc k == 0) refl

label_there : (labels : List ℕ) (k x : ℕ) (more : List ℕ) → k < length labels → x ≡ get_or labels k x → label_at labels k more ≡ x ∷ more
label_there [] k x more h is = absurd (omega (arith, h))
label_there (l ∷ ls) zero x more h is = ap (λ y. y ∷ more) (sym is)
label_there (l ∷ ls) (suc k) x more h is = ap (λ b. if b then l ∷ more else label_at ls k more) (not_first k) ∙ label_there ls k x more (omega (arith, h)) is

label_missing : (labels : List ℕ) (k : ℕ) (more : List ℕ) → length labels ≤ k → label_at labels k more ≡ more
label_missing [] k more h = refl
label_missing (l ∷ ls) zero more h = absurd (omega (arith, h))
label_missing (l ∷ ls) (suc k) more h = ap (λ b. if b then l ∷ more else label_at ls k more) (not_first k) ∙ label_missing ls k more (omega (arith, h))

pub label_pushed : (labels old new : List ℕ) (k x : ℕ) → k < length labels → x ≡ get_or labels k x → new ≡ old ++ x ∷ [] → (more : List ℕ) → new ++ more ≡ old ++ label_at labels k more
label_pushed labels old new k x h is pushed more = ap (λ xs. xs ++ more) pushed ∙ append_assoc old (x ∷ []) more ∙ ap (λ xs. old ++ xs) (sym (label_there labels k x more h is))

pub label_none : (labels old : List ℕ) (k : ℕ) → length labels ≤ k → (more : List ℕ) → old ++ more ≡ old ++ label_at labels k more
label_none labels old k h more = ap (λ xs. old ++ xs) (sym (label_missing labels k more h))

-- Values of these types, named from a place on

made_more : (name : ℕ → ℕ) (whole : Values) (ps qs : List (ℕ × TypeTree)) (types : List TypeTree) (i place after n : ℕ) (t : TypeTree) → i < length types → t ≡ get_or types i t → qs ≡ ps ++ (n, t) ∷ [] → after ≡ place + 1
    → name place ≡ n → whole ≡ plain_values ps ++ values_made name place (map plain_type (drop i types)) → whole ≡ plain_values qs ++ values_made name after (map plain_type (drop (i + 1) types))
made_more name whole ps qs types i place after n t within is pushed next named so_far =
    let rest : List PlainType = map plain_type (drop (i + 1) types) in
    so_far
    ∙ ap (λ ts. plain_values ps ++ values_made name place (map plain_type ts)) (front types i t within is)
    ∙ ap (λ k. plain_values ps ++ ((k, plain_type t) ∷ values_made name (place + 1) rest)) named
    ∙ ap (λ k. plain_values ps ++ ((n, plain_type t) ∷ values_made name k rest)) (sym next)
    ∙ sym (append_assoc (plain_values ps) ((n, plain_type t) ∷ []) (values_made name after rest))
    ∙ ap (λ vs. vs ++ values_made name after rest) (sym (values_joined ps ((n, t) ∷ [])))
    ∙ ap (λ xs. plain_values xs ++ values_made name after rest) (sym pushed)

pub made_next : (name : Numbering → ℕ → ℕ) (t0 t1 t2 : Numbering) (whole : Numbering → Values) (ps qs : List (ℕ × TypeTree)) (types : List TypeTree) (i place after n : ℕ) (t : TypeTree) → i < length types → t ≡ get_or types i t
    → qs ≡ ps ++ (n, t) ∷ [] → after ≡ place + 1 → Asked t1 t2 (λ u. name u place ≡ n)
    → Asked t0 t1 (λ u. whole u ≡ plain_values ps ++ values_made (name u) place (map plain_type (drop i types)))
    → Asked t0 t2 (λ u. whole u ≡ plain_values qs ++ values_made (name u) after (map plain_type (drop (i + 1) types)))
made_next name t0 t1 t2 whole ps qs types i place after n t within is pushed next named a =
    asked_on t0 t1 t2 a named (λ u so_far one. made_more (name u) (whole u) ps qs types i place after n t within is pushed next one so_far)
