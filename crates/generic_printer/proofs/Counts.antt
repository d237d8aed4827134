-- The counters of a walk come to the counts of the definition.
use Rattle.std.proofs.Common.{◌≡◌, ℕ, ◌+◌, ◌==◌, Bool, true, false, cond, ◌||◌, List, [], ◌∷◌, ◌++◌, Option, Some, None, refl, sym, ap, ◌∙◌, append_assoc, add-zero}
use Rattle.std.specs.Prelude.{is_some, option_map, option_and_then, flat_map, find, position, count_by}
use Rattle.std.specs.Option.{option_or}
use Rattle.std.specs.List.{list_any, position_from}
use Rattle.std.proofs.lemmas.List.{append-nil}
use Rattle.std.proofs.lemmas.Grind.{flat_map-append}
use Rattle.std.proofs.lemmas.Bool.Decides.{Decides-eqb}
use Rattle.std.proofs.lemmas.List.Folds.{find-append, list_any-append}
use Rattle.std.proofs.lemmas.List.Sums.{sum_by_push}
use Rattle.std.proofs.lemmas.Iterator.Adapters.{position_from-zero}
use Rattle.tree_model.specs.declared.type_tree.TypeTree.{TypeTree}
use Rattle.tree_model.specs.declared.op_tree.OpTree.{OpTree}
use Rattle.text_model.specs.declared.value_name.ValueName.{ValueName}
use Rattle.text_model.specs.declared.value_name.ValueName.TheVariants.{Argument, Single, Part}
use Rattle.text_model.specs.PrintedPlaces.{Place, argument_at, single_at, group_at, successor_at, block_at, places_of_op}
use Rattle.text_model.specs.PrintedNames.{Names, defines, values_at, places_before, is_argument, is_other, name_at, value_name, names_label, names_along, names_of, blocks_at}
use Rattle.generic_printer.specs.Counters.{Counters, at_start, with_first, with_name, with_parts, with_place, with_places}

-- what the counts are behind some places
abbrev pub counted : List Place → Counters
counted ps = record { next_argument = count_by is_argument ps; next_other = count_by is_other ps; names = names_along ps }

-- counters are the same where their parts are, key by key
same : (c d : Counters) → c.next_argument ≡ d.next_argument → c.next_other ≡ d.next_other
    → ((q : ℕ) → c.names.name q ≡ d.names.name q) → ((q : ℕ) → c.names.type_of q ≡ d.names.type_of q)
    → ((q : ℕ) → c.names.position q ≡ d.names.position q) → ((q : ℕ) → c.names.is_target q ≡ d.names.is_target q) → c ≡ d
same c d a b n t p s = λ i. record {
  next_argument = a i;
  next_other = b i;
  names = record { name = λ q. n q i; type_of = λ q. t q i; position = λ q. p q i; is_target = λ q. s q i };
}

-- the first of two answers
or_none : {A : Type 0} (o : Option A) → option_or o None ≡ o
or_none None = refl
or_none (Some x) = refl

or_cond : {A : Type 0} (o other : Option A) → cond (is_some o) o other ≡ option_or o other
or_cond None other = refl
or_cond (Some x) other = refl

either_way : {A : Type 0} (b : Bool) (x : A) → cond b x x ≡ x
either_way true x = refl
either_way false x = refl

map_or : {A B : Type 0} (f : A → B) (o other : Option A) → option_map f (option_or o other) ≡ option_or (option_map f o) (option_map f other)
map_or f None other = refl
map_or f (Some x) other = refl

cond_or_false : {A : Type 0} (b : Bool) (x y : A) → cond (b || false) x y ≡ cond b x y
cond_or_false true x y = refl
cond_or_false false x y = refl

or_false : (b : Bool) → (b || false) ≡ b
or_false true = refl
or_false false = refl

or_swap : (a b : Bool) → (a || b) ≡ (b || (a || false))
or_swap true true = refl
or_swap true false = refl
or_swap false true = refl
or_swap false false = refl

map_cond : {A B : Type 0} (f : A → B) (b : Bool) (x : A) → option_map f (cond b (Some x) None) ≡ cond b (Some (f x)) None
map_cond f true x = refl
map_cond f false x = refl

cond_mapped : {A B : Type 0} (f : A → B) (o : Option A) → cond (is_some o) (option_map f o) None ≡ option_map f o
cond_mapped f None = refl
cond_mapped f (Some x) = refl

-- a key has what it got first
first_at : {A : Type 0} (f : ℕ → Option A) (key : ℕ) (a : A) (q : ℕ) (b : Bool) → (key == q) ≡ b → cond (is_some (f key)) (f q) (cond b (Some a) (f q)) ≡ option_or (f q) (cond b (Some a) None)
first_at f key a q true e = rw ((Decides-eqb key q).0 e) (or_cond (f q) (Some a))
first_at f key a q false e = either_way (is_some (f key)) (f q) ∙ sym (or_none (f q))

first_is : {A : Type 0} (f : ℕ → Option A) (key : ℕ) (a : A) (q : ℕ) → with_first f key a q ≡ option_or (f q) (cond (key == q) (Some a) None)
first_is f key a q = first_at f key a q (key == q) refl

-- what a place adds to what is found in a list of pairs
found_more : {A : Type 0} (g : Place → List (ℕ × A)) (xs : List Place) (p : Place) (q : ℕ)
    → option_map (λ v. v.1) (find (λ v. v.0 == q) (flat_map g (xs ++ p ∷ []))) ≡ option_or (option_map (λ v. v.1) (find (λ v. v.0 == q) (flat_map g xs))) (option_map (λ v. v.1) (find (λ v. v.0 == q) (g p)))
found_more g xs p q =
    rw (flat_map-append, find-append) (map_or (λ v. v.1) (find (λ v. v.0 == q) (flat_map g xs)) (find (λ v. v.0 == q) (g p ++ [])) ∙ rw append-nil refl)

-- a value stands in a group where the group defines it
position_stands : {A : Type 0} (t : A → Bool) (k : ℕ) (vs : List A) → is_some (position_from t k vs) ≡ list_any t vs
position_stands t k [] = refl
position_stands t k (v ∷ vs) = elim (t v) as (λ b. is_some (cond b (Some k) (position_from t (k + 1) vs)) ≡ (b || list_any t vs)) [ true ↦ refl | false ↦ position_stands t (k + 1) vs ]

stands : {A : Type 0} (t : A → Bool) (vs : List A) → is_some (position t vs) ≡ list_any t vs
stands t vs = ap is_some (position_from-zero t vs) ∙ position_stands t 0 vs

mapped : {A B : Type 0} (f : A → B) (o : Option A) → is_some o ≡ true → is_some (option_map f o) ≡ true
mapped f None e = absurd cc
mapped f (Some x) e = refl

or_mapped : {A B : Type 0} (o : Option B) (b : Bool) (f : A → B) (x : A) (other : Option A) → option_or (option_or o (cond b (Some (f x)) None)) (option_map f other) ≡ option_or o (option_map f (cond b (Some x) other))
or_mapped None true f x other = refl
or_mapped None false f x other = refl
or_mapped (Some y) b f x other = refl

-- the places before the first one that defines the value, behind others
abbrev name_behind : List Place → List Place → ℕ → Option ValueName
name_behind before ps q = option_and_then (name_at q (before ++ places_before q ps)) (find (defines q) ps)

-- one more place names what is not named yet
name_more : (q : ℕ) (before xs : List Place) (p : Place) → name_behind before (xs ++ p ∷ []) q ≡ cond (list_any (defines q) xs) (name_behind before xs q) (cond (defines q p) (name_at q (before ++ xs) p) None)
name_more q before [] p =
    elim (defines q p) as (λ b. option_and_then (name_at q (before ++ cond b [] (p ∷ []))) (cond b (Some p) None) ≡ cond b (name_at q (before ++ []) p) None) [ true ↦ refl | false ↦ refl ]
name_more q before (x ∷ xs) p =
    elim (defines q x) as (λ b. option_and_then (name_at q (before ++ cond b [] (x ∷ places_before q (xs ++ p ∷ [])))) (cond b (Some x) (find (defines q) (xs ++ p ∷ [])))
    ≡ cond (b || list_any (defines q) xs) (option_and_then (name_at q (before ++ cond b [] (x ∷ places_before q xs))) (cond b (Some x) (find (defines q) xs))) (cond (defines q p) (name_at q (before ++ x ∷ xs) p) None))
    [ true ↦ refl | false ↦ simp append_assoc at (name_more q (before ++ x ∷ []) xs p) ]

-- a place that defines a value names it
named_here : (q : ℕ) (before : List Place) (p : Place) → defines q p ≡ true → is_some (name_at q before p) ≡ true
named_here q before (argument_at v) e = refl
named_here q before (single_at v) e = refl
named_here q before (group_at vs) e = mapped (Part (count_by is_other before)) (position (λ v. v.0 == q) vs) (stands (λ v. v.0 == q) vs ∙ e)
named_here q before (successor_at label) e = absurd cc
named_here q before (block_at n label) e = absurd cc

is_named_at : (q : ℕ) (before : List Place) (x : Place) (xs : List Place) (b : Bool) → defines q x ≡ b
    → ((behind : List Place) → is_some (name_behind behind xs q) ≡ list_any (defines q) xs)
    → is_some (option_and_then (name_at q (before ++ cond b [] (x ∷ places_before q xs))) (cond b (Some x) (find (defines q) xs))) ≡ (b || list_any (defines q) xs)
is_named_at q before x xs true e more = named_here q (before ++ []) x e
is_named_at q before x xs false e more = simp append_assoc at (more (before ++ x ∷ []))

is_named : (q : ℕ) (before xs : List Place) → is_some (name_behind before xs q) ≡ list_any (defines q) xs
is_named q before [] = refl
is_named q before (x ∷ xs) = is_named_at q before x xs (defines q x) refl (λ behind. is_named q behind xs)

-- one more place names a value that has no name yet
name_push : (xs : List Place) (p : Place) (q : ℕ) → value_name (xs ++ p ∷ []) q ≡ option_or (value_name xs q) (cond (defines q p) (name_at q xs p) None)
name_push xs p q =
    name_more q [] xs p
    ∙ (ap (λ b. cond b (value_name xs q) (cond (defines q p) (name_at q xs p) None)) (sym (is_named q [] xs)) ∙ or_cond (value_name xs q) (cond (defines q p) (name_at q xs p) None))

-- the results of a group
parts_name : (n : Names) (number k : ℕ) (vs : List (ℕ × TypeTree)) (q : ℕ) → (with_parts n number k vs).name q ≡ option_or (n.name q) (option_map (Part number) (position_from (λ v. v.0 == q) k vs))
parts_name n number k [] q = sym (or_none (n.name q))
parts_name n number k (v ∷ vs) q =
    parts_name (with_name n v (Part number k)) number (k + 1) vs q
    ∙ (ap (λ o. option_or o (option_map (Part number) (position_from (λ v. v.0 == q) (k + 1) vs))) (first_is n.name v.0 (Part number k) q)
    ∙ or_mapped (n.name q) (v.0 == q) (Part number) k (position_from (λ v. v.0 == q) (k + 1) vs))

parts_type : (n : Names) (number k : ℕ) (vs : List (ℕ × TypeTree)) (q : ℕ) → (with_parts n number k vs).type_of q ≡ option_or (n.type_of q) (option_map (λ v. v.1) (find (λ v. v.0 == q) vs))
parts_type n number k [] q = sym (or_none (n.type_of q))
parts_type n number k (v ∷ vs) q =
    parts_type (with_name n v (Part number k)) number (k + 1) vs q
    ∙ (ap (λ o. option_or o (option_map (λ v. v.1) (find (λ v. v.0 == q) vs))) (first_is n.type_of v.0 v.1 q)
    ∙ or_mapped (n.type_of q) (v.0 == q) (λ (w : ℕ × TypeTree). w.1) v (find (λ v. v.0 == q) vs))

parts_position : (n : Names) (number k : ℕ) (vs : List (ℕ × TypeTree)) (q : ℕ) → (with_parts n number k vs).position q ≡ n.position q
parts_position n number k [] q = refl
parts_position n number k (v ∷ vs) q = parts_position (with_name n v (Part number k)) number (k + 1) vs q

parts_target : (n : Names) (number k : ℕ) (vs : List (ℕ × TypeTree)) (q : ℕ) → (with_parts n number k vs).is_target q ≡ n.is_target q
parts_target n number k [] q = refl
parts_target n number k (v ∷ vs) q = parts_target (with_name n v (Part number k)) number (k + 1) vs q

-- one more place moves each part of the counters as the definition says
count_yes : (t : Place → Bool) (xs : List Place) (p : Place) → t p ≡ true → count_by t xs + 1 ≡ count_by t (xs ++ p ∷ [])
count_yes t xs p e = sym (sum_by_push (λ x. cond (t x) 1 0) xs p ∙ ap (λ b. count_by t xs + cond b 1 0) e)

count_no : (t : Place → Bool) (xs : List Place) (p : Place) → t p ≡ false → count_by t xs ≡ count_by t (xs ++ p ∷ [])
count_no t xs p e = sym (sum_by_push (λ x. cond (t x) 1 0) xs p ∙ (ap (λ b. count_by t xs + cond b 1 0) e ∙ add-zero (count_by t xs)))

name_kept : (xs : List Place) (p : Place) (q : ℕ) → defines q p ≡ false → value_name xs q ≡ value_name (xs ++ p ∷ []) q
name_kept xs p q e = sym (name_push xs p q ∙ (ap (λ b. option_or (value_name xs q) (cond b (name_at q xs p) None)) e ∙ or_none (value_name xs q)))

kept : {A : Type 0} (g : Place → List (ℕ × A)) (xs : List Place) (p : Place) (q : ℕ) → g p ≡ []
    → option_map (λ v. v.1) (find (λ v. v.0 == q) (flat_map g xs)) ≡ option_map (λ v. v.1) (find (λ v. v.0 == q) (flat_map g (xs ++ p ∷ [])))
kept g xs p q e = sym (found_more g xs p q ∙ (ap (λ l. option_or (option_map (λ v. v.1) (find (λ v. v.0 == q) (flat_map g xs))) (option_map (λ v. v.1) (find (λ v. v.0 == q) l))) e ∙ or_none (option_map (λ v. v.1) (find (λ v. v.0 == q) (flat_map g xs)))))

first_found : {A : Type 0} (g : Place → List (ℕ × A)) (xs : List Place) (p : Place) (v : ℕ × A) (q : ℕ) → g p ≡ v ∷ []
    → with_first (λ q. option_map (λ v. v.1) (find (λ v. v.0 == q) (flat_map g xs))) v.0 v.1 q ≡ option_map (λ v. v.1) (find (λ v. v.0 == q) (flat_map g (xs ++ p ∷ [])))
first_found g xs p v q e =
    let found = λ (k : ℕ). option_map (λ v. v.1) (find (λ v. v.0 == k) (flat_map g xs)) in
    first_is found v.0 v.1 q
    ∙ sym (found_more g xs p q ∙ (ap (λ l. option_or (found q) (option_map (λ v. v.1) (find (λ v. v.0 == q) l))) e ∙ ap (option_or (found q)) (map_cond (λ v. v.1) (v.0 == q) v)))

one_name : (xs : List Place) (p : Place) (v : ℕ × TypeTree) (name : ValueName) (q : ℕ) → values_at p ≡ v ∷ [] → name_at q xs p ≡ Some name
    → with_first (value_name xs) v.0 name q ≡ value_name (xs ++ p ∷ []) q
one_name xs p v name q e f =
    first_is (value_name xs) v.0 name q
    ∙ sym (name_push xs p q
    ∙ (ap (λ l. option_or (value_name xs q) (cond (list_any (λ v. v.0 == q) l) (name_at q xs p) None)) e
    ∙ (ap (λ o. option_or (value_name xs q) (cond (v.0 == q || false) o None)) f
    ∙ ap (option_or (value_name xs q)) (cond_or_false (v.0 == q) (Some name) None))))

group_name : (xs : List Place) (vs : List (ℕ × TypeTree)) (q : ℕ) → (with_parts (names_along xs) (count_by is_other xs) 0 vs).name q ≡ value_name (xs ++ group_at vs ∷ []) q
group_name xs vs q =
    let part = Part (count_by is_other xs) in
    let t = λ (v : ℕ × TypeTree). v.0 == q in
    parts_name (names_along xs) (count_by is_other xs) 0 vs q
    ∙ (ap (λ o. option_or (value_name xs q) (option_map part o)) (sym (position_from-zero t vs))
    ∙ sym (name_push xs (group_at vs) q
    ∙ (ap (λ b. option_or (value_name xs q) (cond b (option_map part (position t vs)) None)) (sym (stands t vs))
    ∙ ap (option_or (value_name xs q)) (cond_mapped part (position t vs)))))

target_kept : (xs : List Place) (p : Place) (q : ℕ) → names_label q p ≡ false → list_any (names_label q) xs ≡ list_any (names_label q) (xs ++ p ∷ [])
target_kept xs p q e = sym (list_any-append (names_label q) xs (p ∷ []) ∙ (ap (λ b. list_any (names_label q) xs || (b || false)) e ∙ or_false (list_any (names_label q) xs)))

step : (xs : List Place) (p : Place) → with_place (counted xs) p ≡ counted (xs ++ p ∷ [])
step xs (argument_at v) =
    let p = argument_at v in
    same _ _ (count_yes is_argument xs p refl) (count_no is_other xs p refl) (λ q. one_name xs p v (Argument (count_by is_argument xs)) q refl refl) (λ q. first_found values_at xs p v q refl) (λ q. kept blocks_at xs p q refl) (λ q. target_kept xs p q refl)
step xs (single_at v) =
    let p = single_at v in
    same _ _ (count_no is_argument xs p refl) (count_yes is_other xs p refl) (λ q. one_name xs p v (Single (count_by is_other xs)) q refl refl) (λ q. first_found values_at xs p v q refl) (λ q. kept blocks_at xs p q refl) (λ q. target_kept xs p q refl)
step xs (group_at vs) =
    let p = group_at vs in
    same _ _ (count_no is_argument xs p refl) (count_yes is_other xs p refl) (λ q. group_name xs vs q) (λ q. parts_type (names_along xs) (count_by is_other xs) 0 vs q ∙ sym (found_more values_at xs p q)) (λ q. parts_position (names_along xs) (count_by is_other xs) 0 vs q ∙ kept blocks_at xs p q refl) (λ q. parts_target (names_along xs) (count_by is_other xs) 0 vs q ∙ target_kept xs p q refl)
step xs (successor_at label) =
    let p = successor_at label in
    same _ _ (count_no is_argument xs p refl) (count_no is_other xs p refl) (λ q. name_kept xs p q refl) (λ q. kept values_at xs p q refl) (λ q. kept blocks_at xs p q refl) (λ q. or_swap (label == q) (list_any (names_label q) xs) ∙ sym (list_any-append (names_label q) xs (p ∷ [])))
step xs (block_at n label) =
    let p = block_at n label in
    same _ _ (count_no is_argument xs p refl) (count_no is_other xs p refl) (λ q. name_kept xs p q refl) (λ q. kept values_at xs p q refl) (λ q. first_found blocks_at xs p (label, n) q refl) (λ q. target_kept xs p q refl)

pub counts_along : (xs ys : List Place) → with_places (counted xs) ys ≡ counted (xs ++ ys)
counts_along xs [] = ap counted (sym (append-nil xs))
counts_along xs (y ∷ ys) = ap (λ c. with_places c ys) (step xs y) ∙ (counts_along (xs ++ y ∷ []) ys ∙ rw append_assoc refl)

-- the walk from the start gives the names of the definition
pub names_by_walk : (op : OpTree) → (with_places at_start (places_of_op op)).names ≡ names_of op
names_by_walk op = ap (λ (c : Counters). c.names) (counts_along [] (places_of_op op))
