-- Lists of parts and arguments.
use Rattle.std.proofs.Common.{◌≡◌, ℕ, zero, suc, ◌+◌, List, [], ◌∷◌, ◌++◌, map, drop, length, get_or, ◌<◌, ◌≤◌, Bool, true, false, Option, Some, None, refl, sym, ap, ap₂, subst, ◌∙◌, append_assoc, arith}
use Rattle.std.specs.Prelude.{Result, Ok, Err, IfOk}
use Rattle.std.specs.List.{slice_get}
use Rattle.std.proofs.lemmas.Option.{same_Some, none-some}
use Rattle.number_model.specs.Answers.{Answer, Gives, and_then, with_answer}
use Rattle.number_model.specs.Answers.{Answer as answer}
use Rattle.operation_model.specs.Values as model
use Rattle.operation_model.specs.Calling.{Shapes, spread}
use Rattle.value_code.specs.declared.value.Value.{Value}
use Rattle.value_code.specs.Models.{value_of, values_of}
use Rattle.value_code.proofs.Shapes.{value_of-Integer, value_of-Pointer, value_of-Unset, value_of-Aggregate, values_of-parts_of}
use Rattle.call_code.specs.Lists.{before, places, IsPut, Puts, IsSpread, Spreads}

pub ruleset insides = (value_of-Integer, value_of-Pointer, value_of-Unset, value_of-Aggregate, values_of-parts_of)

pub values_append : (vs ws : List Value) → values_of (vs ++ ws) ≡ values_of vs ++ values_of ws
values_append [] ws = refl
values_append (x ∷ vs) ws = ap (λ l. value_of x ∷ l) (values_append vs ws)

-- one value more
pub one_more : (old new : List Value) (v : Value) (rest : Answer (List model.Value)) → new ≡ old ++ v ∷ [] → before new rest ≡ before old (with_answer (λ vs. value_of v ∷ vs) rest)
one_more old new v (Gives vs) e =
    ap (λ l. Gives (l ++ vs)) (ap values_of e ∙ values_append old (v ∷ [])) ∙ ap Gives (append_assoc (values_of old) (value_of v ∷ []) vs)
one_more old new v answer.Undefined e = refl
one_more old new v answer.Outside e = refl

pub nil_behind : (xs : List model.Value) → xs ++ [] ≡ xs
nil_behind [] = refl
nil_behind (x ∷ xs) = ap (λ l. x ∷ l) (nil_behind xs)

abbrev list_given : Answer (List model.Value) → List model.Value
list_given (Gives vs) = vs
list_given _ = []

list_in : (xs ys : List model.Value) → Gives xs ≡ Gives ys → xs ≡ ys
list_in xs ys e = ap list_given e

abbrev is_given : Answer (List model.Value) → Type 0
is_given (Gives vs) = Unit {0}
is_given _ = ⊥

gives_is_not_outside : {vs : List model.Value} → Gives vs ≡ answer.Outside → ⊥
gives_is_not_outside e = subst is_given e tt

gives_is_not_undefined : {vs : List model.Value} → Gives vs ≡ answer.Undefined → ⊥
gives_is_not_undefined e = subst is_given e tt

abbrev is_undefined : Answer (List model.Value) → Type 0
is_undefined answer.Undefined = Unit {0}
is_undefined _ = ⊥

undefined_is_not_outside : ◌≡◌ {A = Answer (List model.Value)} answer.Undefined answer.Outside → ⊥
undefined_is_not_outside e = subst is_undefined e tt

drop_on : {A : Type 0} (xs : List A) (i : ℕ) (x : A) → slice_get xs i ≡ Some x → drop i xs ≡ x ∷ drop (suc i) xs
drop_on [] i x e = absurd (none-some x e)
drop_on (y ∷ ys) zero x e = ap (λ z. z ∷ ys) (same_Some y x e)
drop_on (y ∷ ys) (suc i) x e = drop_on ys i x e

pub drop_at : {A : Type 0} (xs : List A) (i : ℕ) (x : A) → slice_get xs i ≡ Some x → drop i xs ≡ x ∷ drop (i + 1) xs
drop_at xs i x e = let next : suc i ≡ i + 1 = omega arith in drop_on xs i x e ∙ ap (λ j. x ∷ drop j xs) next

drop_past : {A : Type 0} (xs : List A) (i : ℕ) → slice_get xs i ≡ None → drop i xs ≡ []
drop_past [] zero e = refl
drop_past [] (suc i) e = refl
drop_past (y ∷ ys) zero e = absurd (none-some y (sym e))
drop_past (y ∷ ys) (suc i) e = drop_past ys i e

drop_beyond : {A : Type 0} (xs : List A) (n : ℕ) → length xs ≤ n → drop n xs ≡ []
drop_beyond [] zero le = refl
drop_beyond [] (suc n) le = refl
drop_beyond (y ∷ ys) zero le = absurd (omega (arith, le))
drop_beyond (y ∷ ys) (suc n) le = drop_beyond ys n (omega (arith, le))

pub drop_whole : {A : Type 0} (xs : List A) (n : ℕ) → n ≡ length xs → drop n xs ≡ []
drop_whole xs n e = drop_beyond xs n (omega (arith, e))

has_more : {A : Type 0} (xs : List A) (n : ℕ) → n < length xs → 0 < length (drop n xs)
has_more [] n lt = absurd (omega (arith, lt))
has_more (y ∷ ys) zero lt = omega arith
has_more (y ∷ ys) (suc n) lt = has_more ys n (omega (arith, lt))

none_left : (shape : Option ℕ) (shapes : Shapes) → spread (shape ∷ shapes) [] ≡ answer.Outside
none_left None shapes = refl
none_left (Some rank) shapes = refl

some_left : (ys : List Value) → 0 < length ys → spread [] (values_of ys) ≡ answer.Outside
some_left [] lt = absurd (omega (arith, lt))
some_left (y ∷ ys) lt = refl

-- a part that is there
pub part_put : (old new : List Value) (path : List ℕ) (v : model.Value) (part : Value) → Gives (value_of part) ≡ model.part_at path v → new ≡ old ++ part ∷ [] → Puts true old new (path ∷ []) v
part_put old new path v part is e = record {
  is = λ more.
      one_more old new part (model.parts_at more v) e ∙ ap (λ a. before old (and_then a (λ p. with_answer (λ parts. p ∷ parts) (model.parts_at more v)))) is;
}

pub part_missing : (old new : List Value) (path : List ℕ) (v : model.Value) → answer.Outside ≡ model.part_at path v → Puts false old new (path ∷ []) v
part_missing old new path v is = record { is = λ more. ap (λ a. and_then a (λ p. with_answer (λ parts. p ∷ parts) (model.parts_at more v))) (sym is) }

was_outside : (old : List Value) (a : Answer (List model.Value)) → before old a ≡ answer.Outside → a ≡ answer.Outside
was_outside old (Gives vs) e = absurd (gives_is_not_outside e)
was_outside old answer.Undefined e = absurd (undefined_is_not_outside e)
was_outside old answer.Outside e = refl

joined : (done : Bool) (old mid new : List Value) (front back more : List (List ℕ)) (v : model.Value) → Puts true old mid front v → IsPut done mid new back v more → IsPut done old new (front ++ back) v more
joined true old mid new front back more v first second =
    second ∙ first.is (back ++ more) ∙ ap (λ ps. before old (model.parts_at ps v)) (sym (append_assoc front back more))
joined false old mid new front back more v first second =
    ap (λ ps. model.parts_at ps v) (append_assoc front back more)
    ∙ was_outside old (model.parts_at (front ++ (back ++ more)) v) (sym (first.is (back ++ more)) ∙ ap (before mid) second)

-- first these parts, and then those
pub goes_on : (b done : Bool) (old mid new : List Value) (front back : List (List ℕ)) (v : model.Value) → b ≡ true → Puts b old mid front v → Puts done mid new back v → Puts done old new (front ++ back) v
goes_on b done old mid new front back v e first second =
    record { is = λ more. joined done old mid new front back more v (subst (λ t. Puts t old mid front v) e first) (second.is more) }

missing : (old mid new : List Value) (front back : List (List ℕ)) (v : model.Value) → Puts false old mid front v → Puts false old new (front ++ back) v
missing old mid new front back v first = record { is = λ more. ap (λ ps. model.parts_at ps v) (append_assoc front back more) ∙ first.is (back ++ more) }

-- one of the first parts isn't there
pub stops : (b : Bool) (old mid new : List Value) (front back : List (List ℕ)) (v : model.Value) → b ≡ false → Puts b old mid front v → Puts false old new (front ++ back) v
stops b old mid new front back v e first = missing old mid new front back v (subst (λ t. Puts t old mid front v) e first)

pub nothing_put : (old : List Value) (v : model.Value) → Puts true old old [] v
nothing_put old v = record { is = λ more. refl }

counted_split : (m a n : ℕ) → model.counted a (m + n) ≡ model.counted a m ++ model.counted (a + m) n
counted_split zero a n = let same : a + 0 ≡ a = omega arith in let none : 0 + n ≡ n = omega arith in ap (model.counted a) none ∙ ap (λ k. model.counted k n) (sym same)
counted_split (suc m) a n =
    let more : suc m + n ≡ suc (m + n) = omega arith in
    let next : a + 1 + m ≡ a + suc m = omega arith in
    ap (model.counted a) more ∙ ap (λ l. a ∷ l) (counted_split m (a + 1) n ∙ ap (λ k. model.counted (a + 1) m ++ model.counted k n) next)

map_append : (f : ℕ → List ℕ) (xs ys : List ℕ) → map f (xs ++ ys) ≡ map f xs ++ map f ys
map_append f [] ys = refl
map_append f (x ∷ xs) ys = ap (λ l. f x ∷ l) (map_append f xs ys)

abbrev pub place : ℕ → ℕ → List ℕ
place field i = field ∷ i ∷ []

pub places_split : (field i n rank : ℕ) → rank ≡ i + n → places field i ++ map (place field) (model.counted i n) ≡ places field rank
places_split field i n rank e =
    let start : 0 + i ≡ i = omega arith in
    ap (λ k. places field i ++ map (place field) (model.counted k n)) (sym start)
    ∙ sym (map_append (place field) (model.counted 0 i) (model.counted (0 + i) n)) ∙ ap (map (place field)) (sym (counted_split i 0 n)) ∙ ap (places field) (sym e)

-- one place more
pub place_put : (b : Bool) (old mid new : List Value) (field i next : ℕ) (v : model.Value) → b ≡ true → next ≡ i + 1 → Puts true old mid (places field i) v
    → Puts b mid new (place field i ∷ []) v → Puts true old new (places field next) v
place_put b old mid new field i next v e is first second =
    subst (λ ps. Puts true old new ps v) (places_split field i 1 next is)
    (goes_on true true old mid new (places field i) (place field i ∷ []) v refl first (subst (λ t. Puts t mid new (place field i ∷ []) v) e second))

pub place_missing : (b : Bool) (old mid new : List Value) (field i n rank : ℕ) (v : model.Value) → b ≡ false → rank ≡ i + suc n → Puts true old mid (places field i) v
    → Puts b mid new (place field i ∷ []) v → Puts false old new (places field rank) v
place_missing b old mid new field i n rank v e is first second =
    subst (λ ps. Puts false old new ps v) (places_split field i (suc n) rank is)
    (goes_on true false old mid new (places field i) (place field i ∷ map (place field) (model.counted (i + 1) n)) v refl first
    (stops b mid new new (place field i ∷ []) (map (place field) (model.counted (i + 1) n)) v e second))

-- arguments

pub field_paths_is : (rank : ℕ) → ((0 ∷ []) ∷ (1 ∷ []) ∷ (2 ∷ []) ∷ []) ++ (places 3 rank ++ places 4 rank) ≡ model.field_paths rank
field_paths_is rank = refl

all_parts : (paths : List (List ℕ)) → paths ++ [] ≡ paths
all_parts [] = refl
all_parts (p ∷ paths) = ap (λ l. p ∷ l) (all_parts paths)

no_more : (old : List Value) (a : Answer (List model.Value)) (new : List Value) → before new (Gives []) ≡ before old a
    → (rest : Answer (List model.Value)) → before new rest ≡ before old (and_then a (λ fields. with_answer (λ more. fields ++ more) rest))
no_more old (Gives fields) new e (Gives rest) =
    ap (λ l. Gives (l ++ rest)) (sym (nil_behind (values_of new)) ∙ list_in (values_of new ++ []) (values_of old ++ fields) e) ∙ ap Gives (append_assoc (values_of old) fields rest)
no_more old (Gives fields) new e answer.Undefined = refl
no_more old (Gives fields) new e answer.Outside = refl
no_more old answer.Undefined new e rest = absurd (gives_is_not_undefined e)
no_more old answer.Outside new e rest = absurd (gives_is_not_outside e)

fields_spread : (done : Bool) (old new : List Value) (rank : ℕ) (v : model.Value) (shapes : Shapes) (vs : List model.Value) → IsPut done old new (model.field_paths rank) v [] → IsSpread done old new (Some rank) v shapes vs
fields_spread true old new rank v shapes vs put = no_more old (model.parts_at (model.field_paths rank) v) new (put ∙ ap (λ ps. before old (model.parts_at ps v)) (all_parts (model.field_paths rank))) (spread shapes vs)
fields_spread false old new rank v shapes vs put =
    ap (λ a. and_then a (λ fields. with_answer (λ rest. fields ++ rest) (spread shapes vs))) (ap (λ ps. model.parts_at ps v) (sym (all_parts (model.field_paths rank))) ∙ put)

-- an argument by its fields, and as it is
pub by_fields : (done : Bool) (old new : List Value) (rank : ℕ) (v : model.Value) → Puts done old new (model.field_paths rank) v → Spreads done old new (Some rank) v
by_fields done old new rank v put = record { is = λ shapes vs. fields_spread done old new rank v shapes vs (put.is []) }

pub as_it_is : (old new : List Value) (v : Value) → new ≡ old ++ v ∷ [] → Spreads true old new None (value_of v)
as_it_is old new v e = record { is = λ shapes vs. one_more old new v (spread shapes vs) e }

-- all arguments

pub none_before : (a : Answer (List model.Value)) → before [] a ≡ a
none_before (Gives vs) = refl
none_before answer.Undefined = refl
none_before answer.Outside = refl

module _ (shapes : Shapes) (xs : List Value) where
  abbrev pub Sofar : ℕ → List Value → Type 0
  Sofar i all = before all (spread (drop i shapes) (values_of (drop i xs))) ≡ spread shapes (values_of xs)

  ahead : (i : ℕ) (shape : Option ℕ) (x : Value) → slice_get shapes i ≡ Some shape → slice_get xs i ≡ Some x
      → spread (drop i shapes) (values_of (drop i xs)) ≡ spread (shape ∷ drop (i + 1) shapes) (value_of x ∷ values_of (drop (i + 1) xs))
  ahead i shape x s e = ap₂ (λ ss ys. spread ss (values_of ys)) (drop_at shapes i shape s) (drop_at xs i x e)

  pub argument_put : (b : Bool) (i : ℕ) (all next : List Value) (shape : Option ℕ) (x : Value) → b ≡ true → slice_get shapes i ≡ Some shape → slice_get xs i ≡ Some x
      → Spreads b all next shape (value_of x) → Sofar i all → Sofar (i + 1) next
  argument_put b i all next shape x t s e put so =
      (subst (λ d. Spreads d all next shape (value_of x)) t put).is (drop (i + 1) shapes) (values_of (drop (i + 1) xs)) ∙ ap (before all) (sym (ahead i shape x s e)) ∙ so

  pub argument_missing : (b : Bool) (i : ℕ) (all next : List Value) (shape : Option ℕ) (x : Value) → b ≡ false → slice_get shapes i ≡ Some shape → slice_get xs i ≡ Some x
      → Spreads b all next shape (value_of x) → Sofar i all → answer.Outside ≡ spread shapes (values_of xs)
  argument_missing b i all next shape x f s e put so =
      sym (ap (before all) (ahead i shape x s e ∙ (subst (λ d. Spreads d all next shape (value_of x)) f put).is (drop (i + 1) shapes) (values_of (drop (i + 1) xs)))) ∙ so

  pub too_few : (i : ℕ) (all : List Value) (shape : Option ℕ) → slice_get shapes i ≡ Some shape → slice_get xs i ≡ None → Sofar i all → answer.Outside ≡ spread shapes (values_of xs)
  too_few i all shape s e so = sym (ap (before all) (ap₂ (λ ss ys. spread ss (values_of ys)) (drop_at shapes i shape s) (drop_past xs i e) ∙ none_left shape (drop (i + 1) shapes))) ∙ so

  pub too_many : (n : ℕ) (all : List Value) → n ≡ length shapes → length shapes < length xs → Sofar n all → answer.Outside ≡ spread shapes (values_of xs)
  too_many n all e lt so = sym (ap (before all) (ap (λ ss. spread ss (values_of (drop n xs))) (drop_whole shapes n e) ∙ some_left (drop n xs) (has_more xs n (subst (λ k. k < length xs) (sym e) lt)))) ∙ so

  pub all_spread : (n : ℕ) (all : List Value) → n ≡ length shapes → length xs ≤ length shapes → Sofar n all → Gives (values_of all) ≡ spread shapes (values_of xs)
  all_spread n all e le so =
      ap Gives (sym (nil_behind (values_of all)))
      ∙ sym (ap (before all) (ap₂ (λ ss ys. spread ss (values_of ys)) (drop_whole shapes n e) (drop_beyond xs n (subst (λ k. length xs ≤ k) (sym e) le)))) ∙ so

pub if_ok : {T E : Type 0} {P Q : T → Type 0} (r : Result T E) → ((x : T) → P x → Q x) → IfOk r P → IfOk r Q
if_ok (Ok x) f p = f x p
if_ok (Err e) f p = tt

pub get_is : {A : Type 0} (xs : List A) (i : ℕ) (d : A) → i < length xs → slice_get xs i ≡ Some (get_or xs i d)
get_is [] i d lt = absurd (omega (arith, lt))
get_is (x ∷ xs) zero d lt = refl
get_is (x ∷ xs) (suc i) d lt = get_is xs i d (omega (arith, lt))

pub first_of_list : {A : Type 0} (xs : List A) (i : ℕ) → i < length xs → (x : A) × (slice_get xs i ≡ Some x)
first_of_list [] i lt = absurd (omega (arith, lt))
first_of_list (x ∷ xs) zero lt = (x, refl)
first_of_list (x ∷ xs) (suc i) lt = first_of_list xs i (omega (arith, lt))
