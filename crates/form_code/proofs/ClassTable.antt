-- The table of classes has for each known name what tells its form, and no other name has a form.
use Rattle.std.proofs.Common.{◌≡◌, ℕ, zero, suc, ◌+◌, ◌<◌, Bool, true, false, List, [], ◌∷◌, ◌++◌, map, get_or, nat_lt, inl, inr, refl, sym, ap, ◌∙◌, arith}
use Rattle.std.specs.Prelude.{Option, None}
use Rattle.std.specs.List.{list_all}
use Rattle.std.specs.Str.{bytes_eq}
use Rattle.std.proofs.lemmas.Slice.Eq.{bytes_eq-Decides}
use Rattle.std.proofs.lemmas.Bool.{cases_Bool}
use Rattle.std.proofs.lemmas.Grind.{common_steps}
use Rattle.tree_model.specs.Known.{known, known_count, known_text, StandsAt, IsUnknown}
use Rattle.operation_model.specs.Values.{counted}
use Rattle.form_model.specs.Classes as model
use Rattle.form_code.specs.declared.classes.Class.TheVariants as class
use Rattle.form_code.specs.declared.classes.TheConstants.{CLASSES}
use Rattle.form_code.specs.ClassViews.{class_view}

-- the class in the table at a number
abbrev at_number : ℕ → Option model.Class
at_number k = class_view (get_or CLASSES.now k class.Nothing)

table_is : map (λ t. model.class_of t model.classes) known ≡ map at_number (counted 0 known_count)
unfolding known
table_is = refl

at_map : {A B : Type 0} (f : A → B) (xs : List A) (k : ℕ) (d : A) → get_or (map f xs) k (f d) ≡ f (get_or xs k d)
at_map f [] k d = refl
at_map f (x ∷ xs) zero d = refl
at_map f (x ∷ xs) (suc k) d = at_map f xs k d

at_counted : {B : Type 0} (f : ℕ → B) (i n k : ℕ) (d : B) → k < n → get_or (map f (counted i n)) k d ≡ f (i + k)
at_counted f i zero k d h = absurd (omega arith)
at_counted f i (suc n) zero d h = let e : i ≡ i + 0 = omega arith in ap f e
at_counted f i (suc n) (suc k) d h =
    let less : k < n = omega arith in
    let e : i + 1 + k ≡ i + suc k = omega arith in
    at_counted f (i + 1) n k d less ∙ ap f e

text_is : (k : ℕ) → known_text k ≡ get_or known k []
unfolding known_text
text_is k = refl

class_at : (k : ℕ) → k < known_count → model.class_of (known_text k) model.classes ≡ at_number k
class_at k h =
    let e : 0 + k ≡ k = omega arith in
    ap (λ t. model.class_of t model.classes) (text_is k)
    ∙ sym (at_map (λ t. model.class_of t model.classes) known k [])
    ∙ ap (λ l. get_or l k None) table_is
    ∙ at_counted at_number 0 known_count k None h
    ∙ ap at_number e

-- a known name
pub known_class : (k : ℕ) (name : List ℕ) → StandsAt k name → class_view (get_or CLASSES.now k class.Nothing) ≡ model.class_of name model.classes
known_class k name s = sym (class_at k s.0) ∙ ap (λ t. model.class_of t model.classes) s.1

-- the numbers of the names that have classes
abbrev named : List ℕ
named = counted 5 28 ++ 1 ∷ 3 ∷ 4 ∷ counted 33 16 ++ counted 50 29

named_are : map (λ c. c.0) model.classes ≡ map known_text named
unfolding known known_text
named_are = refl

abbrev all_below : List ℕ → Bool
all_below ks = list_all (λ k. nat_lt k known_count) ks

named_below : all_below named ≡ true
named_below = refl

differs : (other name : List ℕ) → (other ≡ name → ⊥) → bytes_eq other name ≡ false
differs other name apart = elim (cases_Bool (bytes_eq other name)) [ inl t ↦ absurd (apart ((bytes_eq-Decides other name).0 t)) | inr f ↦ f ]

skipped : (c : List ℕ × model.Class) (cs : model.Classes) (name : List ℕ) → bytes_eq c.0 name ≡ false → model.class_of name (c ∷ cs) ≡ model.class_of name cs
skipped c cs name e = rw e refl

none_among : (cs : model.Classes) (ks : List ℕ) (name : List ℕ) → map (λ c. c.0) cs ≡ map known_text ks → all_below ks ≡ true → IsUnknown name → model.class_of name cs ≡ None
none_among [] ks name e b u = refl
none_among (c ∷ cs) [] name e b u = absurd (cc)
none_among (c ∷ cs) (k ∷ ks) name e b u =
    let head : c.0 ≡ known_text k = cc in
    let rest : map (λ c. c.0) cs ≡ map known_text ks = cc in
    let less : k < known_count = grind (arith, common_steps) in
    let others : all_below ks ≡ true = grind (arith, common_steps) in
    skipped c cs name (differs c.0 name (λ same. u.apart k (less, sym head ∙ same))) ∙ none_among cs ks name rest others u

-- another name
pub unknown_class : (name : List ℕ) → IsUnknown name → None ≡ model.class_of name model.classes
unknown_class name u = sym (none_among model.classes named name named_are named_below u)

pub ruleset table = (common_steps, known_class, unknown_class)
