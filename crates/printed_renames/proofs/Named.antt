-- Names of functions that are the same but for numbers.
use Rattle.std.proofs.Common.{◌≡◌, ℕ, ◌+◌, ◌==◌, Bool, true, false, List, [], ◌∷◌, ◌++◌, length, suc, refl, sym, ap, ◌∙◌}
use Rattle.std.specs.Prelude.{cond, not, ◌||◌, Option, Some, None, find, flat_map, if◌then◌else◌, nat_lt, option_and_then, option_map, position}
use Rattle.std.specs.List.{count_by, list_any, prefix_len}
use Rattle.std.proofs.lemmas.Bool.{false≢true}
use Rattle.std.proofs.lemmas.List.Sums.{sum_by-cons}
use Rattle.tree_model.specs.declared.type_tree.TypeTree.{TypeTree}
use Rattle.plain_tree.specs.Renamings.{OneToOne}
use Rattle.text_model.specs.declared.value_name.ValueName.{ValueName}
use Rattle.text_model.specs.declared.value_name.ValueName.TheVariants.{Argument, Single, Part}
use Rattle.text_model.specs.PrintedPlaces.{Place, argument_at, single_at, group_at, successor_at, block_at}
use Rattle.text_model.specs.PrintedNames.{Names, blocks_at, defined_type, defines, is_argument, is_other, label_position, name_at, names_along, names_label, places_before, value_name, values_at}
use Rattle.printed_renames.proofs.Places.{TreeValues, none_tree, more_tree, both_values, RenPlace, ren_argument, ren_single, ren_group, ren_successor, ren_block_at, RenPlaces, no_places, more_places}

-- names that say the same of values and labels that go together
pub record NamesAgree (R L : ℕ → ℕ → Type 0) (n m : Names) : Type 0 where
  pub name : (v w : ℕ) → R v w → n.name v ≡ m.name w
  pub type_of : (v w : ℕ) → R v w → n.type_of v ≡ m.type_of w
  pub position : (l k : ℕ) → L l k → n.position l ≡ m.position k
  pub is_target : (l k : ℕ) → L l k → n.is_target l ≡ m.is_target k

abbrev is_it : ℕ → (ℕ × TypeTree) → Bool
is_it v x = x.0 == v

any_same : {R : ℕ → ℕ → Type 0} {vs ws : List (ℕ × TypeTree)} (v w : ℕ) → OneToOne R → R v w → TreeValues R vs ws → list_any (is_it v) vs ≡ list_any (is_it w) ws
any_same v w one e none_tree = refl
any_same v w one e (more_tree {m} {n} {t} {vs} {ws} d rest) = ap (λ b. b || list_any (is_it v) vs) (one m n v w d e) ∙ ap (λ b. (n == w) || b) (any_same v w one e rest)

defines_same : {R L : ℕ → ℕ → Type 0} {p q : Place} (v w : ℕ) → OneToOne R → R v w → RenPlace R L p q → defines v p ≡ defines w q
defines_same v w one e (ren_argument {t = t} d) = any_same v w one e (more_tree {t = t} d none_tree)
defines_same v w one e (ren_single {t = t} d) = any_same v w one e (more_tree {t = t} d none_tree)
defines_same v w one e (ren_group r) = any_same v w one e r
defines_same v w one e (ren_successor d) = refl
defines_same v w one e (ren_block_at d) = refl

-- The places in front of the one that defines a value, and that one

cut_ren : {R L : ℕ → ℕ → Type 0} {p q : Place} {ps qs : List Place} (b c : Bool) → b ≡ c → RenPlace R L p q → RenPlaces R L ps qs → RenPlaces R L (if b then [] else p ∷ ps) (if c then [] else q ∷ qs)
cut_ren true true e r rest = no_places
cut_ren true false e r rest = absurd (false≢true (sym e))
cut_ren false true e r rest = absurd (false≢true e)
cut_ren false false e r rest = more_places r rest

before_ren : {R L : ℕ → ℕ → Type 0} {ps qs : List Place} (v w : ℕ) → OneToOne R → R v w → RenPlaces R L ps qs → RenPlaces R L (places_before v ps) (places_before w qs)
before_ren v w one e no_places = no_places
before_ren v w one e (more_places {p} {q} r rest) = cut_ren (defines v p) (defines w q) (defines_same v w one e r) r (before_ren v w one e rest)

data Found (R L : ℕ → ℕ → Type 0) : Option Place → Option Place → Type 0 where
  none_found : Found R L None None
  one_found : {p q : Place} → RenPlace R L p q → Found R L (Some p) (Some q)

either_found : {R L : ℕ → ℕ → Type 0} {p q : Place} {o x : Option Place} (b c : Bool) → b ≡ c → RenPlace R L p q → Found R L o x → Found R L (cond b (Some p) o) (cond c (Some q) x)
either_found true true e r rest = one_found r
either_found true false e r rest = absurd (false≢true (sym e))
either_found false true e r rest = absurd (false≢true e)
either_found false false e r rest = rest

find_ren : {R L : ℕ → ℕ → Type 0} {ps qs : List Place} (v w : ℕ) → OneToOne R → R v w → RenPlaces R L ps qs → Found R L (find (defines v) ps) (find (defines w) qs)
find_ren v w one e no_places = none_found
find_ren v w one e (more_places {p} {q} r rest) = either_found (defines v p) (defines w q) (defines_same v w one e r) r (find_ren v w one e rest)

-- Counts

count_cons : (p : Place → Bool) (x : Place) (xs : List Place) → count_by p (x ∷ xs) ≡ cond (p x) 1 0 + count_by p xs
count_cons p x xs = sum_by-cons (λ (y : Place). cond (p y) 1 0) x xs

counts_same : {R L : ℕ → ℕ → Type 0} {ps qs : List Place} (test : Place → Bool) → ((p q : Place) → RenPlace R L p q → test p ≡ test q) → RenPlaces R L ps qs → count_by test ps ≡ count_by test qs
counts_same test same no_places = refl
counts_same test same (more_places {p} {q} {ps} {qs} r rest) =
    count_cons test p ps ∙ ap (λ b. cond {A = ℕ} b 1 0 + count_by test ps) (same p q r) ∙ ap (λ n. cond {A = ℕ} (test q) 1 0 + n) (counts_same test same rest) ∙ sym (count_cons test q qs)

argument_same : {R L : ℕ → ℕ → Type 0} (p q : Place) → RenPlace R L p q → is_argument p ≡ is_argument q
argument_same p q (ren_argument d) = refl
argument_same p q (ren_single d) = refl
argument_same p q (ren_group r) = refl
argument_same p q (ren_successor d) = refl
argument_same p q (ren_block_at d) = refl

other_same : {R L : ℕ → ℕ → Type 0} (p q : Place) → RenPlace R L p q → is_other p ≡ is_other q
other_same p q (ren_argument d) = refl
other_same p q (ren_single d) = refl
other_same p q (ren_group r) = refl
other_same p q (ren_successor d) = refl
other_same p q (ren_block_at d) = refl

-- Places in a group

pub lengths_same : {R : ℕ → ℕ → Type 0} {vs ws : List (ℕ × TypeTree)} → TreeValues R vs ws → length vs ≡ length ws
lengths_same none_tree = refl
lengths_same (more_tree e rest) = ap (λ n. suc n) (lengths_same rest)

front_same : {R : ℕ → ℕ → Type 0} {vs ws : List (ℕ × TypeTree)} (v w : ℕ) → OneToOne R → R v w → TreeValues R vs ws → prefix_len (λ x. not (is_it v x)) vs ≡ prefix_len (λ x. not (is_it w x)) ws
front_same v w one e none_tree = refl
front_same v w one e (more_tree {m} {n} {t} {vs} {ws} d rest) =
    ap (λ b. cond {A = ℕ} (not b) (1 + prefix_len (λ x. not (is_it v x)) vs) 0) (one m n v w d e) ∙ ap (λ k. cond {A = ℕ} (not (n == w)) (1 + k) 0) (front_same v w one e rest)

position_same : {R : ℕ → ℕ → Type 0} {vs ws : List (ℕ × TypeTree)} (v w : ℕ) → OneToOne R → R v w → TreeValues R vs ws → position (is_it v) vs ≡ position (is_it w) ws
position_same {vs = vs} {ws = ws} v w one e r =
    ap (λ k. cond {A = Option ℕ} (nat_lt k (length vs)) (Some k) None) (front_same v w one e r)
    ∙ ap (λ n. cond {A = Option ℕ} (nat_lt (prefix_len (λ x. not (is_it w x)) ws) n) (Some (prefix_len (λ x. not (is_it w x)) ws)) None) (lengths_same r)

-- The name of a value

name_there : {R L : ℕ → ℕ → Type 0} {p q : Place} {before after : List Place} (v w : ℕ) → OneToOne R → R v w → RenPlaces R L before after → RenPlace R L p q → name_at v before p ≡ name_at w after q
name_there v w one e front (ren_argument d) = ap (λ n. Some (Argument n)) (counts_same is_argument argument_same front)
name_there v w one e front (ren_single d) = ap (λ n. Some (Single n)) (counts_same is_other other_same front)
name_there {after = after} v w one e front (ren_group {vs} {ws} r) =
    ap (λ n. option_map (Part n) (position (is_it v) vs)) (counts_same is_other other_same front) ∙ ap (λ o. option_map (Part (count_by is_other after)) o) (position_same v w one e r)
name_there v w one e front (ren_successor d) = refl
name_there v w one e front (ren_block_at d) = refl

name_found : {R L : ℕ → ℕ → Type 0} {o x : Option Place} {before after : List Place} (v w : ℕ) → OneToOne R → R v w → RenPlaces R L before after → Found R L o x
    → option_and_then (name_at v before) o ≡ option_and_then (name_at w after) x
name_found v w one e front none_found = refl
name_found v w one e front (one_found r) = name_there v w one e front r

-- Its type

all_values : {R L : ℕ → ℕ → Type 0} {ps qs : List Place} → RenPlaces R L ps qs → TreeValues R (flat_map values_at ps) (flat_map values_at qs)
all_values no_places = none_tree
all_values (more_places (ren_argument d) rest) = more_tree d (all_values rest)
all_values (more_places (ren_single d) rest) = more_tree d (all_values rest)
all_values (more_places (ren_group r) rest) = both_values r (all_values rest)
all_values (more_places (ren_successor d) rest) = all_values rest
all_values (more_places (ren_block_at d) rest) = all_values rest

type_either : (b c : Bool) (m n : ℕ) (t : TypeTree) (o x : Option (ℕ × TypeTree)) → b ≡ c → option_map (λ (v : ℕ × TypeTree). v.1) o ≡ option_map (λ (v : ℕ × TypeTree). v.1) x
    → option_map (λ (v : ℕ × TypeTree). v.1) (cond b (Some (m, t)) o) ≡ option_map (λ (v : ℕ × TypeTree). v.1) (cond c (Some (n, t)) x)
type_either true true m n t o x e rest = refl
type_either true false m n t o x e rest = absurd (false≢true (sym e))
type_either false true m n t o x e rest = absurd (false≢true e)
type_either false false m n t o x e rest = rest

type_same : {R : ℕ → ℕ → Type 0} {vs ws : List (ℕ × TypeTree)} (v w : ℕ) → OneToOne R → R v w → TreeValues R vs ws → option_map (λ (x : ℕ × TypeTree). x.1) (find (is_it v) vs) ≡ option_map (λ (x : ℕ × TypeTree). x.1) (find (is_it w) ws)
type_same v w one e none_tree = refl
type_same v w one e (more_tree {m} {n} {t} {vs} {ws} d rest) = type_either (m == v) (n == w) m n t (find (is_it v) vs) (find (is_it w) ws) (one m n v w d e) (type_same v w one e rest)

-- Labels

abbrev has_label : ℕ → (ℕ × ℕ) → Bool
has_label l b = b.0 == l

data Labelled (L : ℕ → ℕ → Type 0) : List (ℕ × ℕ) → List (ℕ × ℕ) → Type 0 where
  none_labelled : Labelled L [] []
  more_labelled : {l m k : ℕ} {bs cs : List (ℕ × ℕ)} → L l m → Labelled L bs cs → Labelled L ((l, k) ∷ bs) ((m, k) ∷ cs)

all_labelled : {R L : ℕ → ℕ → Type 0} {ps qs : List Place} → RenPlaces R L ps qs → Labelled L (flat_map blocks_at ps) (flat_map blocks_at qs)
all_labelled no_places = none_labelled
all_labelled (more_places (ren_argument d) rest) = all_labelled rest
all_labelled (more_places (ren_single d) rest) = all_labelled rest
all_labelled (more_places (ren_group r) rest) = all_labelled rest
all_labelled (more_places (ren_successor d) rest) = all_labelled rest
all_labelled (more_places (ren_block_at d) rest) = more_labelled d (all_labelled rest)

block_either : (b c : Bool) (l m k : ℕ) (o x : Option (ℕ × ℕ)) → b ≡ c → option_map (λ (v : ℕ × ℕ). v.1) o ≡ option_map (λ (v : ℕ × ℕ). v.1) x
    → option_map (λ (v : ℕ × ℕ). v.1) (cond b (Some (l, k)) o) ≡ option_map (λ (v : ℕ × ℕ). v.1) (cond c (Some (m, k)) x)
block_either true true l m k o x e rest = refl
block_either true false l m k o x e rest = absurd (false≢true (sym e))
block_either false true l m k o x e rest = absurd (false≢true e)
block_either false false l m k o x e rest = rest

block_same : {L : ℕ → ℕ → Type 0} {bs cs : List (ℕ × ℕ)} (l m : ℕ) → OneToOne L → L l m → Labelled L bs cs → option_map (λ (x : ℕ × ℕ). x.1) (find (has_label l) bs) ≡ option_map (λ (x : ℕ × ℕ). x.1) (find (has_label m) cs)
block_same l m one e none_labelled = refl
block_same l m one e (more_labelled {l = h} {m = i} {k = k} {bs = bs} {cs = cs} d rest) = block_either (h == l) (i == m) h i k (find (has_label l) bs) (find (has_label m) cs) (one h i l m d e) (block_same l m one e rest)

named_same : {R L : ℕ → ℕ → Type 0} {p q : Place} (l m : ℕ) → OneToOne L → L l m → RenPlace R L p q → names_label l p ≡ names_label m q
named_same l m one e (ren_argument d) = refl
named_same l m one e (ren_single d) = refl
named_same l m one e (ren_group r) = refl
named_same l m one e (ren_successor {l = h} {m = i} d) = one h i l m d e
named_same l m one e (ren_block_at d) = refl

target_same : {R L : ℕ → ℕ → Type 0} {ps qs : List Place} (l m : ℕ) → OneToOne L → L l m → RenPlaces R L ps qs → list_any (names_label l) ps ≡ list_any (names_label m) qs
target_same l m one e no_places = refl
target_same l m one e (more_places {p} {q} {ps} {qs} r rest) =
    ap (λ b. b || list_any (names_label l) ps) (named_same l m one e r) ∙ ap (λ b. names_label m q || b) (target_same l m one e rest)

pub names_agree : {R L : ℕ → ℕ → Type 0} {ps qs : List Place} → OneToOne R → OneToOne L → RenPlaces R L ps qs → NamesAgree R L (names_along ps) (names_along qs)
names_agree one labels r = record {
  name = λ v w e. name_found v w one e (before_ren v w one e r) (find_ren v w one e r);
  type_of = λ v w e. type_same v w one e (all_values r);
  position = λ l k e. block_same l k labels e (all_labelled r);
  is_target = λ l k e. target_same l k labels e r;
}
